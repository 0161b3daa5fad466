-- A walk over segments: broken off by a refusal, ended by a hit on an edge, or gone through with a parity and what it hands on.
-- One walk after another: only one that is gone through goes on, and parities add.
-- Assumes nothing.
use Rattle.std.specs.Prelude.{ℕ, Bool, true, false}
use Rattle.answer.specs.declared.Refusal.{Refusal}
use Rattle.basics.specs.Parity.{◌⊻◌}
use Rattle.answer.specs.Refusals.{refusal, counted_from}
use Rattle.answer.specs.Answers.{Answer, ok, refused}
pub use Rattle.answer.specs.Answers.{refused as broken}
use Rattle.answer.specs.declared.Walked.{Walked}
use Rattle.answer.specs.declared.Walked.TheVariants.{On, Off}

-- it is the code's type
abbrev pub Walk : Type 0 → Type 0
Walk A = Answer (Walked A)

pattern abbrev pub on : {A : Type 0} → Walk A
on = ok On

pattern abbrev pub off : {A : Type 0} → Bool → A → Walk A
off b a = ok (Off b a)

-- after a stretch with that parity
unfoldable pub add : {A : Type 0} → Bool → Walk A → Walk A
add b (broken r) = broken r
add b on = on
add b (off c a) = off (b ⊻ c) a

infixl 20 ◌go◌
abbrev pub ◌go◌ : {A B : Type 0} → Walk A → (A → Walk B) → Walk B
broken r go k = broken r
on go k = on
off b a go k = add b (k a)

-- a walk that needs an answer first
infixl 20 ◌yields◌
abbrev pub ◌yields◌ : {A B : Type 0} → Answer A → (A → Walk B) → Walk B
ok a yields k = k a
refused r yields k = broken r

-- a walk over bytes that stand behind a others: a refusal's place is counted from the first of all
abbrev pub walk_behind : {A : Type 0} → ℕ → Walk A → Walk A
walk_behind a (broken r) = broken (counted_from a r)
walk_behind a on = on
walk_behind a (off b x) = off b x

-- nothing seen
abbrev pub done : {A : Type 0} → A → Walk A
done a = off false a

-- what must hold, else that number
abbrev pub must : {A : Type 0} → ℕ → Bool → Walk A → Walk A
must n true w = w
must n false w = broken (refusal n)

-- inside or not, where a point on an edge gets `edge`
abbrev pub verdict : {A : Type 0} → Bool → Walk A → Answer Bool
verdict edge (broken r) = refused r
verdict edge on = ok edge
verdict edge (off b a) = ok b
