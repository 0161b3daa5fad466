-- What one more read put behind what came before is what the reader gave then.
use Rattle.std.proofs.Common.{◌≡◌, ℕ, ◌+◌, ◌-◌, ◌≤◌, List, ◌++◌, length, take, drop, sym, ap, ◌∙◌, subst, rules, drop_at, length-take-le, le_refl}
use Rattle.std.proofs.lemmas.Slice.{take-put_mid_below}
use Rattle.std.specs.Io.KnownBytes.{Consumes}
use Rattle.std.proofs.KnownBytes.{Consumes-trans}
use borrow.Rule.Slice.PartMut.{put_mid, post_of}
use lib.Seq.{take-add, take-append-le}
use Rattle.harness.proofs.records.fill.Goals as goal

-- what came before, and then the bytes that were put in
longer : (n k came : ℕ) (s part : List ℕ) → n ≤ length s → came ≤ length part → take (n + came) (put_mid n k s part) ≡ take n s ++ take came part
longer n k came s part within fits =
    let after = post_of n k s in
    take-add n came (put_mid n k s part)
    ∙ ap (λ l. l ++ take came (drop n (put_mid n k s part))) (take-put_mid_below n k s part n (le_refl n) within)
    ∙ ap (λ l. take n s ++ take came l) (drop_at (take n s) (part ++ after) n (length-take-le n s within))
    ∙ ap (λ l. take n s ++ l) (take-append-le came part after fits)

pub loop-n-preserved : goal.loop-n-preserved
loop-n-preserved g c =
    let n = c.loop-n.n in
    let within = c.loop-n.invariant.0 in
    let fits = c.in_ok-came.ensures.bound.0 in
    let joined = longer n (length c.loop-n.s - n) c.in_ok-came.came c.loop-n.s c.read.new.buf within fits in
    (search rules, subst (Consumes _ _) (sym joined) (Consumes-trans _ _ _ _ _ c.loop-n.invariant.1 c.in_ok-came.ensures.bytes.0))
