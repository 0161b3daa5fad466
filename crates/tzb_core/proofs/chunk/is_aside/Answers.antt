-- `chunk::is_aside` meets its contract: only of heights beyond the band is it asked whether they differ.
-- Assumes nothing.
use Rattle.std.proofs.Common.{◌≡◌, Bool, true, false, ◌&&◌, ◌||◌, ℤ, sym, refl, ◌∙◌, ap₂, w32, rules}
use lib.Signed.{lt_z}
use Rattle.tzb_core.specs.Steps.{aside, both_below, both_above}
use Rattle.basics.specs.Signed.{back}
use Rattle.tzb_core.proofs.chunk.is_aside.Goals as goal

-- a test that is asked where another holds
where_true : (a b : Bool) → b ≡ true → a ≡ a && b
where_true true b h = sym h
where_true false b h = refl

where_false : (a b : Bool) → b ≡ false → false ≡ a && b
where_false true b h = sym h
where_false false b h = refl

-- the same of equal heights
four : (u u₁ v v₁ lo lo₁ hi hi₁ : ℤ) → u ≡ u₁ → v ≡ v₁ → lo ≡ lo₁ → hi ≡ hi₁ → (both_below u v lo || both_above u v hi) ≡ (both_below u₁ v₁ lo₁ || both_above u₁ v₁ hi₁)
four u u₁ v v₁ lo lo₁ hi hi₁ e f g h = rw (e, f, g, h)

pub returns-then-is_beyond : goal.returns-then-is_beyond
unfolding aside
returns-then-is_beyond c =
    let a = c.args in
    let u = back w32 a.u.y (search rules) in
    let v = back w32 a.v.y (search rules) in
    let lo = back w32 a.b.lo (search rules) in
    let hi = back w32 a.b.hi (search rules) in
    ap₂ (λ (x y : ℤ). lt_z x y || lt_z y x) u v ∙ where_true _ _ (sym (c.is_beyond.ensures ∙ four _ _ _ _ _ _ _ _ u v lo hi) ∙ c.if-is_beyond.true)

pub returns : goal.returns
unfolding aside
returns c =
    let a = c.args in
    let u = back w32 a.u.y (search rules) in
    let v = back w32 a.v.y (search rules) in
    let lo = back w32 a.b.lo (search rules) in
    let hi = back w32 a.b.hi (search rules) in
    where_false (lt_z a.u.y a.v.y || lt_z a.v.y a.u.y) _ (sym (c.is_beyond.ensures ∙ four _ _ _ _ _ _ _ _ u v lo hi) ∙ c.if-is_beyond.false)
