-- What a question answers: a value, or a refusal. One thing after another: the first refusal stands.
-- Assumes nothing.
use Rattle.std.specs.Prelude.{ℕ, ◌≡◌, Bool, true, false, List, ◌++◌, length, drop}
use Rattle.answer.specs.declared.Refusal.{Refusal}
use Rattle.std.specs.declared.result.Result.{Result}
pub use Rattle.std.specs.declared.result.Result.TheVariants.{Ok as ok, Err as refused}
use Rattle.answer.specs.Refusals.{refusal, placed_at, counted_from}

-- it is the code's Result: `ok` a value, or `refused`
abbrev pub Answer : Type 0 → Type 0
Answer A = Result A Refusal

abbrev pub no : {A : Type 0} → ℕ → Answer A
no n = refused (refusal n)

-- a value, and what is done with it
infixl 20 ◌then◌
abbrev pub ◌then◌ : {A B : Type 0} → Answer A → (A → Answer B) → Answer B
ok a then k = k a
refused r then k = refused r

-- what must hold, else that number
abbrev pub need : {A : Type 0} → ℕ → Bool → Answer A → Answer A
need n true x = x
need n false x = no n

-- what is asked about the byte at p: a refusal has this place
abbrev pub about : {A : Type 0} → ℕ → Answer A → Answer A
about p (ok a) = ok a
about p (refused r) = refused (placed_at p r)

-- what is asked of bytes that stand behind a others: a refusal's place is counted from the first of all
abbrev pub behind : {A : Type 0} → ℕ → Answer A → Answer A
behind a (ok x) = ok x
behind a (refused r) = refused (counted_from a r)

-- what a check answers: fine, with nothing to tell, or a refusal
abbrev pub Check : Type 0
Check = Answer (Unit {0})

abbrev pub fine : Check
fine = ok tt

-- an answer that is given only after a check was fine
infixl 20 ◌before◌
abbrev pub ◌before◌ : {A : Type 0} → Check → Answer A → Answer A
ok u before x = x
refused k before x = refused k

-- what is told of an answer where its value is not asked for
abbrev pub outcome : {A : Type 0} → Answer A → Check
outcome (ok a) = fine
outcome (refused r) = refused r

-- how many there are
abbrev pub how_many : {A : Type 0} → Answer (List A) → Answer ℕ
how_many x = x then λ l. ok (length l)

-- lent memory after an answer: what was answered stands first, and what lies behind is as it was; after a refusal all is as it was
abbrev pub left : {A : Type 0} → List A → Answer (List A) → List A
left room (ok l) = l ++ drop (length l) room
left room (refused k) = room

-- the answer's value, or the fixed one
abbrev pub value_or : {A : Type 0} → A → Answer A → A
value_or fixed (ok a) = a
value_or fixed (refused r) = fixed

-- the answer is no refusal
pub record Given {A : Type 0} (x : Answer A) : Type 0 where
  pub value : A
  pub is : ok value ≡ x

-- an answer that passes a test; a refusal does not
unfoldable pub holds : {A : Type 0} → (A → Bool) → Answer A → Bool
holds P (ok a) = P a
holds P (refused r) = false

-- any answer that is no refusal
unfoldable pub answered : {A : Type 0} → Answer A → Bool
answered x = holds (λ a. true) x
