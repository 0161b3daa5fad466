-- Building succeeds where every group's record is there, and in each the records of its chunks, whose boxes lie within the group's in y. Nothing here need be believed.
-- Assumes nothing.
use Prim.Native.Nat.{ℕ, zero, suc, ◌+◌, ◌≤◌, ◌<◌}
use native.Mathlib.Omega.{arith}
use mathlib.Core.Path.{◌≡◌, refl, sym, ap, ◌∙◌}
use mathlib.Core.Bool.{Bool, true, false, ◌||◌}
use mathlib.Core.List.{List, []}
use lib.Dec.{leb, ltb}
use Rattle.answer.specs.declared.Refusal.{Refusal}
use Rattle.answer.specs.Refusals.{refusal}
use Rattle.answer.specs.Answers.{Answer, ok, refused, Given, ◌then◌, need}
use Rattle.answer.proofs.AnswersLaws.{then_ok, need_met, zero_one}
use Rattle.opened.specs.declared.Opened.{Opened}
use Rattle.reader_records.specs.declared.GroupRecord.{GroupRecord}
use Rattle.reader_records.specs.Records.{chunk_at, group_at}
use Rattle.stripes.specs.Stripes.{within_height}
use Rattle.stripes.specs.Numbers.{numbers, need_of}
use Rattle.reader_stripes.specs.Building.{boxes_from, boxed_at, boxed_from, boxed_groups, stripes_need, stripes_of}

-- answers that are no refusals
module _ {A B : Type 0} where
  given_then : (x : Answer A) (k : A → Answer B) → (g : Given x) → Given (k g.value) → Given (x then k)
  given_then x k g h = record { value = h.value; is = h.is ∙ then_ok x k g.value g.is }

given_need : {A : Type 0} (n : ℕ) (b : Bool) (x : Answer A) → b ≡ true → Given x → Given (need n b x)
given_need n b x e g = record { value = g.value; is = g.is ∙ need_met n b x e }

given_ok : {A : Type 0} (a : A) → Given (ok a)
given_ok a = record { value = a; is = refl }

or_r : (a b : Bool) → b ≡ true → a || b ≡ true
or_r true b e = refl
or_r false b e = e

-- chunk j, and that its box lies within the group's in y
pub record Under (o : Opened) (s : List ℕ) (g : GroupRecord) (j : ℕ) : Type 0 where
  pub chunk : Given (chunk_at o s j)
  pub within : within_height g.bbox chunk.value.bbox ≡ true

module _ (o : Opened) (s : List ℕ) where
  boxes_given : (g : GroupRecord) → ((c : ℕ) → c < g.count → Under o s g (g.first + c)) → (n c : ℕ) → c + n ≤ g.count → Given (boxes_from o s g n c)
  unfolding boxes_from
  boxes_given g under zero c h = given_ok []
  boxes_given g under (suc n) c h =
      let u = under c (omega arith) in
      given_then (chunk_at o s (g.first + c)) _ u.chunk
      (given_need 49 _ _ (or_r (ltb g.count 2) _ u.within)
      (given_then (boxes_from o s g n (c + 1)) _ (boxes_given g under n (c + 1) (omega arith)) (given_ok _)))

  module _ (there : (i : ℕ) → i < o.groups.count → Given (group_at o s i)) (under : (i : ℕ) → i < o.groups.count → (g : GroupRecord) → ok g ≡ group_at o s i → (c : ℕ) → c < g.count → Under o s g (g.first + c)) where
    boxed_given : (i : ℕ) → i < o.groups.count → Given (boxed_at o s i)
    unfolding boxed_at
    boxed_given i h =
        let g = there i h in
        given_then (group_at o s i) _ g (given_then (boxes_from o s g.value g.value.count 0) _ (boxes_given g.value (under i h g.value g.is) g.value.count 0 (omega arith)) (given_ok _))

    from_given : (n i : ℕ) → i + n ≤ o.groups.count → Given (boxed_from o s n i)
    unfolding boxed_from
    from_given zero i h = given_ok []
    from_given (suc n) i h = given_then (boxed_at o s i) _ (boxed_given i (omega arith)) (given_then (boxed_from o s n (i + 1)) _ (from_given n (i + 1) (omega arith)) (given_ok _))

    pub groups_given : Given (boxed_groups o s)
    unfolding boxed_groups
    groups_given = from_given o.groups.count 0 (omega arith)

-- of what is boxed the need is told, and building is refused by 46 alone
pub need_given : (o : Opened) (s : List ℕ) (g : Given (boxed_groups o s)) → ok (need_of g.value) ≡ stripes_need o s
unfolding stripes_need
need_given o s g = then_ok (boxed_groups o s) (λ l. ok (need_of l)) g.value g.is

pub stripes_given : (o : Opened) (s : List ℕ) (room : ℕ) (g : Given (boxed_groups o s)) → need 46 (leb (need_of g.value) room) (ok (numbers g.value)) ≡ stripes_of o s room
unfolding stripes_of
stripes_given o s room g = then_ok (boxed_groups o s) (λ l. need 46 (leb (need_of l) room) (ok (numbers l))) g.value g.is

-- ---- where every record is there, nothing but 49 is met
abbrev Only49 : {A : Type 0} → Answer A → Type 0
Only49 x = (k : Refusal) → refused k ≡ x → k ≡ refusal 49

only_ok : {A : Type 0} (a : A) → Only49 (ok a)
only_ok a k e = let z : ◌≡◌ {A = ℕ} 0 1 = cc in absurd (zero_one z)

only_given : {A : Type 0} (x : Answer A) → Given x → Only49 x
only_given x g k e = only_ok g.value k (e ∙ sym g.is)

only_need : {A : Type 0} (b : Bool) (x : Answer A) → Only49 x → Only49 (need 49 b x)
only_need true x h k e = h k e
only_need false x h k e = cc

only_then : {A B : Type 0} (x : Answer A) (f : A → Answer B) → Only49 x → ((a : A) → ok a ≡ x → Only49 (f a)) → Only49 (x then f)
only_then (ok a) f h g k e = g a refl k e
only_then {A} {B} (refused r) f h g k e = h k (again r k e)
  where
    again : (r k : Refusal) → ◌≡◌ {A = Answer B} (refused k) (refused r) → ◌≡◌ {A = Answer A} (refused k) (refused r)
    again r k e = let z : k ≡ r = cc in ap refused z

module _ (o : Opened) (s : List ℕ) where
  boxes_only : (g : GroupRecord) → ((c : ℕ) → c < g.count → Given (chunk_at o s (g.first + c))) → (n c : ℕ) → c + n ≤ g.count → Only49 (boxes_from o s g n c)
  unfolding boxes_from
  boxes_only g there zero c h = only_ok []
  boxes_only g there (suc n) c h =
      only_then (chunk_at o s (g.first + c)) _ (only_given (chunk_at o s (g.first + c)) (there c (omega arith)))
      (λ v e. only_need (ltb g.count 2 || within_height g.bbox v.bbox) _
      (only_then (boxes_from o s g n (c + 1)) _ (boxes_only g there n (c + 1) (omega arith)) (λ l f. only_ok _)))

  module _ (there : (i : ℕ) → i < o.groups.count → Given (group_at o s i)) (under : (i : ℕ) → i < o.groups.count → (g : GroupRecord) → ok g ≡ group_at o s i → (c : ℕ) → c < g.count → Given (chunk_at o s (g.first + c))) where
    boxed_only : (i : ℕ) → i < o.groups.count → Only49 (boxed_at o s i)
    unfolding boxed_at
    boxed_only i h =
        only_then (group_at o s i) _ (only_given (group_at o s i) (there i h))
        (λ g e. only_then (boxes_from o s g g.count 0) _ (boxes_only g (under i h g e) g.count 0 (omega arith)) (λ l f. only_ok _))

    from_only : (n i : ℕ) → i + n ≤ o.groups.count → Only49 (boxed_from o s n i)
    unfolding boxed_from
    from_only zero i h = only_ok []
    from_only (suc n) i h =
        only_then (boxed_at o s i) _ (boxed_only i (omega arith))
        (λ g e. only_then (boxed_from o s n (i + 1)) _ (from_only n (i + 1) (omega arith)) (λ l f. only_ok _))

    pub need_only : (k : Refusal) → refused k ≡ stripes_need o s → k ≡ refusal 49
    unfolding stripes_need boxed_groups
    need_only = only_then (boxed_from o s o.groups.count 0) _ (from_only o.groups.count 0 (omega arith)) (λ l e. only_ok _)
