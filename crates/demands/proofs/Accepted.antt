-- What the full check accepts: exactly the files of which F1 to F6 hold.
-- Assumes nothing.
use Prim.Native.Nat.{ℕ}
use mathlib.Core.Path.{◌≡◌, sym, ◌∙◌, subst}
use mathlib.Core.List.{List}
use mathlib.Core.Logic.{◌↔◌}
use Rattle.answer.specs.Answers.{ok}
use Rattle.opened.specs.declared.Opened.{Opened}
use Rattle.reader_check.specs.FullCheck as Rules
use Rattle.reader_check.proofs.Lowest.{accepted_holds, holds_accepted}
use Rattle.tzb.specs.Opening.{open_of}
use Rattle.tzb.specs.FullCheck.{full_check_of}
use Rattle.demands.specs.Accepted.{Accepted}
use Rattle.replies.specs.Replies.{accepted}
use Rattle.answer.proofs.AnswersLaws.{ok_inv}

module _ (file : List ℕ) where
  pub accepts_exactly : (full_check_of file ≡ accepted) ↔ ((o : Opened) × Accepted file o)
  unfolding full_check_of
  accepts_exactly = (go, back)
    where
      go : Rules.check_of (open_of file) file ≡ accepted → (o : Opened) × Accepted file o
      go e =
          let t = accepted_holds (open_of file) file (sym e) in
          let h = t.2 in
          (t.0, record { f1 = t.1; f2 = h.records; f2_room = h.room; f3 = h.decode; f4 = h.chunk_boxes; f5 = h.groups; f6 = h.boxes })

      back : (o : Opened) × Accepted file o → Rules.check_of (open_of file) file ≡ accepted
      back p =
          let a = p.1 in
          sym (holds_accepted (open_of file) file p.0 a.f1 (record { records = a.f2; room = a.f2_room; decode = a.f3; chunk_boxes = a.f4; groups = a.f5; boxes = a.f6 }))

  -- with the very record that opening makes
  pub accepted_with : full_check_of file ≡ accepted → (o : Opened) → ok o ≡ open_of file → Accepted file o
  accepted_with e o f =
      let t = accepts_exactly.0 e in
      subst (Accepted file) (ok_inv t.0 o (t.1.f1 ∙ sym f)) t.1
