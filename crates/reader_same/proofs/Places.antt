-- Where the parts of the built numbers lie (stripes/specs/Numbers): a group's entry, a stripe's entry, a stripe's chunk numbers. Nothing here need be believed.
-- Assumes nothing.
use Prim.Native.Nat.{ℕ, zero, suc, ◌+◌, ◌-◌, ◌*◌, ◌<◌}
use native.Mathlib.Omega.{arith}
use mathlib.Core.Path.{◌≡◌, refl, sym, ap, subst, ◌∙◌}
use mathlib.Core.List.{List, [], ◌∷◌, ◌++◌, append_assoc}
use lib.ListN.{length, length-append}
use Rattle.boxes.specs.declared.BBox.{BBox}
use Rattle.stripes.specs.declared.Striping.{Striping}
use Rattle.stripes.specs.Stripes.{Boxed, chunks_in, stripes_from, striping_in, group_stripes}
use Rattle.stripes.specs.Numbers.{low, high, group_numbers, stripe_numbers, group_entry, group_entries, stripe_entries, all_stripes, together, numbers}
use Rattle.stripes.proofs.NeedLaws.{entries_length, stripe_entries_length, stripes_length, group_length}
use Rattle.reader_same.proofs.Lying.{Lies, lies_left, lies_right, lies_to}

-- ---- entries one after another, each of which says a place; behind each the place moves by so many
module _ {X : Type 0} (entry : X → ℕ → List ℕ) (size : X → ℕ) where
  laid : List X → ℕ → List ℕ
  laid [] place = []
  laid (x ∷ l) place = entry x place ++ laid l (place + size x)

  moved : List X → ℕ
  moved [] = 0
  moved (x ∷ l) = size x + moved l

  laid_on : (l m : List X) (place : ℕ) → laid (l ++ m) place ≡ laid l place ++ laid m (place + moved l)
  unfolding laid moved
  laid_on [] m place = ap (laid m) (omega arith)
  laid_on (x ∷ l) m place =
      ap (λ (t : List ℕ). entry x place ++ t) (laid_on l m (place + size x) ∙ ap (λ (n : ℕ). laid l (place + size x) ++ laid m n) (omega arith))
      ∙ sym (append_assoc (entry x place) (laid l (place + size x)) (laid m (place + (size x + moved l))))

  -- the entry of x, with those of l before it and those of m behind it
  laid_at : (xs : List ℕ) (at place : ℕ) (all l : List X) (x : X) (m : List X) → all ≡ l ++ x ∷ m
      → (part : List ℕ) → part ≡ laid all place → Lies xs at part → (to : ℕ) → at + length (laid l place) ≡ to → (n : ℕ) → place + moved l ≡ n → Lies xs to (entry x n)
  unfolding laid
  laid_at xs at place all l x m e part f w to g n h =
      let v : Lies xs at (laid l place ++ (entry x (place + moved l) ++ laid m (place + moved l + size x))) = subst (Lies xs at) (f ∙ ap (λ (z : List X). laid z place) e ∙ laid_on l (x ∷ m) place) w in
      let u : Lies xs (at + length (laid l place)) (entry x (place + moved l)) = lies_left xs (at + length (laid l place)) (entry x (place + moved l)) _ (lies_right xs at (laid l place) _ v) in
      lies_to xs (at + length (laid l place)) to (entry x n) (rw h at u) g

-- ---- the numbers' three parts are laid so
abbrev entry_of : Boxed → ℕ → List ℕ
entry_of g place = group_entry (striping_in g) place

abbrev size_of : Boxed → ℕ
size_of g = stripe_numbers * (striping_in g).k

groups_laid : (l : List Boxed) (place : ℕ) → group_entries l place ≡ laid entry_of size_of l place
unfolding group_entries laid
groups_laid [] place = refl
groups_laid (g ∷ l) place = ap (λ (t : List ℕ). group_entry (striping_in g) place ++ t) (groups_laid l (place + stripe_numbers * (striping_in g).k))

abbrev pub stripe_entry : List ℕ → ℕ → List ℕ
stripe_entry t place = low place ∷ high place ∷ length t ∷ []

stripes_laid : (l : List (List ℕ)) (place : ℕ) → stripe_entries l place ≡ laid stripe_entry length l place
unfolding stripe_entries laid
stripes_laid [] place = refl
stripes_laid (t ∷ l) place = ap (λ (u : List ℕ). stripe_entry t place ++ u) (stripes_laid l (place + length t))

-- chunk numbers say no place
abbrev alone : List ℕ → ℕ → List ℕ
alone t place = t

together_laid : (l : List (List ℕ)) (place : ℕ) → together l ≡ laid alone length l place
unfolding together laid
together_laid [] place = refl
together_laid (t ∷ l) place = ap (λ (u : List ℕ). t ++ u) (together_laid l (place + length t))

together_moved : (entry : List ℕ → ℕ → List ℕ) (l : List (List ℕ)) → length (together l) ≡ moved entry length l
unfolding together moved
together_moved entry [] = refl
together_moved entry (t ∷ l) = length-append t (together l) ∙ ap (λ (n : ℕ). length t + n) (together_moved entry l)

-- ---- how many stripes there are
stripes_on : (l m : List Boxed) → all_stripes (l ++ m) ≡ all_stripes l ++ all_stripes m
unfolding all_stripes
stripes_on [] m = refl
stripes_on (g ∷ l) m = ap (λ (t : List (List ℕ)). group_stripes g ++ t) (stripes_on l m) ∙ sym (append_assoc (group_stripes g) (all_stripes l) (all_stripes m))

stripes_moved : (entry : Boxed → ℕ → List ℕ) (l : List Boxed) → moved entry size_of l ≡ stripe_numbers * length (all_stripes l)
unfolding all_stripes moved
stripes_moved entry [] = refl
stripes_moved entry (g ∷ l) =
    let e : length (group_stripes g ++ all_stripes l) ≡ (striping_in g).k + length (all_stripes l) = length-append (group_stripes g) (all_stripes l) ∙ ap (λ (n : ℕ). n + length (all_stripes l)) (group_length g) in
    ap (λ (n : ℕ). stripe_numbers * (striping_in g).k + n) (stripes_moved entry l) ∙ omega (arith, e)

-- a group's stripe, with those before and behind
from_on : (t : Striping) (l : List BBox) (n m stripe : ℕ) → stripes_from t l (n + m) stripe ≡ stripes_from t l n stripe ++ stripes_from t l m (stripe + n)
unfolding stripes_from
from_on t l zero m stripe =
    let e : 0 + m ≡ m = omega arith in
    let f : stripe + 0 ≡ stripe = omega arith in
    rw (e, f)
from_on t l (suc n) m stripe =
    let e : suc n + m ≡ suc (n + m) = omega arith in
    let f : stripe + suc n ≡ stripe + 1 + n = omega arith in
    rw (e, f) (ap (λ (u : List (List ℕ)). chunks_in t stripe 0 l ∷ u) (from_on t l n m (stripe + 1)))

-- ---- where the stripes' entries start, and the chunk numbers; where those entries start that come behind the stripes of l
abbrev stripes_start : List Boxed → ℕ
stripes_start all = group_numbers * length all

abbrev chunks_start : List Boxed → ℕ
chunks_start all = stripes_start all + stripe_numbers * length (all_stripes all)

abbrev pub group_start : List Boxed → List Boxed → ℕ
group_start all l = stripes_start all + stripe_numbers * length (all_stripes l)

-- the numbers' three parts
abbrev group_part : List Boxed → List ℕ
group_part all = group_entries all (stripes_start all)

abbrev stripe_part : List Boxed → List ℕ
stripe_part all = stripe_entries (all_stripes all) (chunks_start all)

module _ (xs : List ℕ) (all : List Boxed) (built : Lies xs 0 (numbers all)) where
  fore_lies : Lies xs 0 (group_part all ++ stripe_part all)
  unfolding numbers
  fore_lies = lies_left xs 0 (group_part all ++ stripe_part all) (together (all_stripes all)) built

  groups_lie : Lies xs 0 (group_part all)
  groups_lie = lies_left xs 0 (group_part all) (stripe_part all) fore_lies

  stripes_lie : Lies xs (stripes_start all) (stripe_part all)
  stripes_lie = lies_to xs _ _ _ (lies_right xs 0 (group_part all) (stripe_part all) fore_lies) (ap (λ (n : ℕ). 0 + n) (entries_length all (stripes_start all)) ∙ omega arith)

  chunks_lie : Lies xs (chunks_start all) (together (all_stripes all))
  unfolding numbers
  chunks_lie =
      lies_to xs _ _ _ (lies_right xs 0 (group_part all ++ stripe_part all) (together (all_stripes all)) built)
      (omega (arith, length-append (group_part all) (stripe_part all), entries_length all (stripes_start all), stripe_entries_length (all_stripes all) (chunks_start all)))

  -- a group with the groups before and behind it
  pub entry_lies : (l m : List Boxed) (g : Boxed) → all ≡ l ++ g ∷ m → Lies xs (group_numbers * length l) (group_entry (striping_in g) (group_start all l))
  entry_lies l m g e =
      laid_at entry_of size_of xs 0 (stripes_start all) all l g m e (group_part all) (groups_laid all (stripes_start all)) groups_lie
      (group_numbers * length l) (ap (λ (u : List ℕ). 0 + length u) (sym (groups_laid l (stripes_start all))) ∙ omega (arith, entries_length l (stripes_start all)))
      (group_start all l) (ap (λ (n : ℕ). stripes_start all + n) (stripes_moved entry_of l))

  -- a stripe with those before and behind it
  pub stripe_lies : (u w : List (List ℕ)) (t : List ℕ) → all_stripes all ≡ u ++ t ∷ w
      → Lies xs (stripes_start all + stripe_numbers * length u) (stripe_entry t (chunks_start all + length (together u))) × Lies xs (chunks_start all + length (together u)) t
  stripe_lies u w t e = (
    laid_at stripe_entry length xs (stripes_start all) (chunks_start all) (all_stripes all) u t w e (stripe_part all) (stripes_laid (all_stripes all) (chunks_start all)) stripes_lie
        (stripes_start all + stripe_numbers * length u) (ap (λ (m : List ℕ). stripes_start all + length m) (sym (stripes_laid u (chunks_start all))) ∙ ap (λ (n : ℕ). stripes_start all + n) (stripe_entries_length u (chunks_start all)))
        (chunks_start all + length (together u)) (ap (λ (n : ℕ). chunks_start all + n) (sym (together_moved stripe_entry u))),
    laid_at alone length xs (chunks_start all) 0 (all_stripes all) u t w e (together (all_stripes all)) (together_laid (all_stripes all) 0) chunks_lie
        (chunks_start all + length (together u)) (ap (λ (l : List ℕ). chunks_start all + length l) (sym (together_laid u 0)))
        (0 + moved alone length u) refl,
  )

-- ---- a group's stripe among all stripes
module _ (l m : List Boxed) (g : Boxed) where
  abbrev before : ℕ → List (List ℕ)
  before stripe = all_stripes l ++ stripes_from (striping_in g) g.chunks stripe 0

  before_length : (stripe : ℕ) → length (before stripe) ≡ length (all_stripes l) + stripe
  before_length stripe = length-append (all_stripes l) (stripes_from (striping_in g) g.chunks stripe 0) ∙ ap (λ (n : ℕ). length (all_stripes l) + n) (stripes_length (striping_in g) g.chunks stripe 0)

  abbrev pub numbers_in : ℕ → List ℕ
  numbers_in stripe = chunks_in (striping_in g) stripe 0 g.chunks

  among : (stripe rest : ℕ) → (striping_in g).k ≡ stripe + suc rest → all_stripes (l ++ g ∷ m) ≡ before stripe ++ numbers_in stripe ∷ (stripes_from (striping_in g) g.chunks rest (stripe + 1) ++ all_stripes m)
  unfolding all_stripes group_stripes stripes_from
  among stripe rest e =
      let z : 0 + stripe ≡ stripe = omega arith in
      let f : group_stripes g ≡ stripes_from (striping_in g) g.chunks stripe 0 ++ numbers_in stripe ∷ stripes_from (striping_in g) g.chunks rest (stripe + 1) =
      ap (λ (n : ℕ). stripes_from (striping_in g) g.chunks n 0) e ∙ (rw z at (from_on (striping_in g) g.chunks stripe (suc rest) 0)) in
      stripes_on l (g ∷ m)
      ∙ ap (λ (u : List (List ℕ)). all_stripes l ++ (u ++ all_stripes m)) f
      ∙ ap (λ (u : List (List ℕ)). all_stripes l ++ u) (append_assoc (stripes_from (striping_in g) g.chunks stripe 0) (numbers_in stripe ∷ stripes_from (striping_in g) g.chunks rest (stripe + 1)) (all_stripes m))
      ∙ sym (append_assoc (all_stripes l) (stripes_from (striping_in g) g.chunks stripe 0) (numbers_in stripe ∷ (stripes_from (striping_in g) g.chunks rest (stripe + 1) ++ all_stripes m)))

-- its entry, and where its chunk numbers lie
pub record StripeLies (xs : List ℕ) (at : ℕ) (t : List ℕ) : Type 0 where
  pub start : ℕ
  pub entry : Lies xs at (stripe_entry t start)
  pub chunks : Lies xs start t

pub group_stripe : (xs : List ℕ) (all l m : List Boxed) (g : Boxed) → Lies xs 0 (numbers all) → all ≡ l ++ g ∷ m
    → (stripe : ℕ) → stripe < (striping_in g).k → StripeLies xs (group_start all l + stripe_numbers * stripe) (chunks_in (striping_in g) stripe 0 g.chunks)
group_stripe xs all l m g built e stripe h =
    let k : ℕ = (striping_in g).k in
    let f : all_stripes all ≡ before l m g stripe ++ numbers_in l m g stripe ∷ (stripes_from (striping_in g) g.chunks (k - suc stripe) (stripe + 1) ++ all_stripes m) = ap all_stripes e ∙ among l m g stripe (k - suc stripe) (omega arith) in
    let w = stripe_lies xs all built (before l m g stripe) _ (numbers_in l m g stripe) f in
    record {
      start = chunks_start all + length (together (before l m g stripe));
      entry = lies_to xs _ _ _ w.0 (omega (arith, before_length l m g stripe));
      chunks = w.1;
    }
