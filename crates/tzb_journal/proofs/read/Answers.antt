-- `read` meets its contract: the number of places, the room for the position, then the entry.
-- Assumes nothing.
use Rattle.std.proofs.Common.{rules}
use mir.Syntax.{w32}
use mir.Val.{to_z, of_z}
use mir.ValLaws.{to_z-of_z}
use mathlib.Core.Path.{◌≡◌, ap, ap₂, ◌∙◌}
use mathlib.Core.List.{List, ◌∷◌, ◌++◌}
use lib.IntN.{ℤ}
use lib.ListN.{length, drop}
use Rattle.std.proofs.lemmas.Result.{err_from_is_err_and}
use Rattle.answer.specs.Answers.{Answer, ok, ◌then◌, left}
use Rattle.entries.specs.Entry.{Entry}
use Rattle.entries.specs.Reading.{head_of}
use Rattle.tzb_journal.specs.Journal.{journal_read, position_of}
use Rattle.tzb_journal.proofs.JournalLaws.{offered_fits, offered_yes, offered_no, read_no, read_short, read_as, position_set, position_kept}
use native.Mathlib.Omega.{arith}
use Rattle.tzb_journal.proofs.read.Goals as goal

pub returns-in_err-claim : goal.returns-in_err-claim
returns-in_err-claim c =
    let a = c.args in
    let p = err_from_is_err_and c.from_residual.result c.from_residual.ensures.1 in
    let h = offered_no _ _ c.is_offered.ensures _ c.in_err-claim.ensures in
    let e = read_no a.places a.bytes.now (length a.position.now) (length a.zones.now) h.0 in
    record { result_value = rw (p.1, p.2, h.1) (ap (λ (x : Answer Entry). x then λ e. ok (head_of e)) e); memory = (ap (λ (x : Answer Entry). left a.position.now (x then λ e. ok (position_of e))) e, ap (λ (x : Answer Entry). left a.zones.now (x then λ e. ok e.zones)) e) }

pub overflow_cast-places : goal.overflow_cast-places
overflow_cast-places c = omega (arith, offered_fits _ _ c.is_offered.ensures c.in_ok-claim.ensures)

pub returns-then-position-lt2 : goal.returns-then-position-lt2
returns-then-position-lt2 c =
    let a = c.args in
    let e = read_short a.places a.bytes.now (length a.position.now) (length a.zones.now) (offered_yes _ _ c.is_offered.ensures c.in_ok-claim.ensures) c.if-position-lt2.true _ c.why_unread.ensures in
    record { result_value = ap (λ (x : Answer Entry). x then λ e. ok (head_of e)) e; memory = (ap (λ (x : Answer Entry). left a.position.now (x then λ e. ok (position_of e))) e, ap (λ (x : Answer Entry). left a.zones.now (x then λ e. ok e.zones)) e) }

pub overflow_cast-places-2 : goal.overflow_cast-places-2
overflow_cast-places-2 c = omega (arith, offered_fits _ _ c.is_offered.ensures c.in_ok-claim.ensures)

pub returns-in_err-q : goal.returns-in_err-q
returns-in_err-q c =
    let a = c.args in
    let n = length a.position.now in
    let m = length a.zones.now in
    let p = err_from_is_err_and c.from_residual-in_err-q.result c.from_residual-in_err-q.ensures.1 in
    let e = read_as a.places a.bytes.now n m (offered_yes _ _ c.is_offered.ensures c.in_ok-claim.ensures) c.if-position-lt2.false in
    let told = c.in_err-q.ensures.result_value ∙ ap (λ (x : Answer Entry). x then λ e. ok (head_of e)) e in
    record { result_value = rw (p.1, p.2) told; memory = (position_kept (journal_read a.places a.bytes.now n m) a.position.now _ told, c.read_entry.ensures.memory ∙ ap (λ (x : Answer Entry). left a.zones.now (x then λ e. ok e.zones)) e) }

pub returns : goal.returns
returns c =
    let a = c.args in
    let n = length a.position.now in
    let m = length a.zones.now in
    let e = read_as a.places a.bytes.now n m (offered_yes _ _ c.is_offered.ensures c.in_ok-claim.ensures) c.if-position-lt2.false in
    let q = c.in_ok-q.q in
    let x : to_z w32 (of_z w32 q.x) ≡ q.x = search (rules, to_z-of_z) in
    let y : to_z w32 (of_z w32 q.y) ≡ q.y = search (rules, to_z-of_z) in
    let told = c.in_ok-q.ensures.result_value ∙ ap (λ (x : Answer Entry). x then λ e. ok (head_of e)) e in
    record {
      result_value = told;
      memory = (
        ap (λ (l : List ℤ). l ++ drop 2 a.position.now) c.copy_from_slice.ensures.after ∙ ap₂ (λ (u v : ℤ). u ∷ v ∷ drop 2 a.position.now) x y
            ∙ position_set (journal_read a.places a.bytes.now n m) a.position.now q _ _ told,
        c.read_entry.ensures.memory ∙ ap (λ (x : Answer Entry). left a.zones.now (x then λ e. ok e.zones)) e,
      );
    }
