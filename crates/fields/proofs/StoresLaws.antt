-- Laws of specs/Stores, as proofs cite them. Nothing here need be believed.
-- Assumes nothing.
use Prim.Native.Nat.{ℕ, zero, suc, ◌+◌, ◌-◌, ◌≤◌, ◌<◌, ◌/◌, ◌%◌}
use mathlib.Core.Path.{◌≡◌, refl, sym, ap, ap₂, ◌∙◌}
use mathlib.Core.List.{List, ◌++◌, append_assoc}
use native.Mathlib.Omega.{arith}
use lib.ListN.{length, take, drop, set, length-append}
use lib.Seq.{sets, sets-eq, length-sets, length-take-le, take_at, drop-append-add, drop-drop}
use Rattle.fields.specs.Stores.{to_le, laid, Laid}

pub length_to_le : (n x : ℕ) → length (to_le n x) ≡ n
length_to_le zero x = refl
length_to_le (suc n) x = ap suc (length_to_le n (x / 256))

-- the n bytes of a number, stored one by one from p on
unfoldable pub digits : List ℕ → ℕ → ℕ → ℕ → List ℕ
digits s p n x = sets s p (to_le n x)

pub digits_all : (s : List ℕ) (p n x : ℕ) → digits s (p + 0) (n - 0) x ≡ digits s p n x
digits_all s p n x =
    let here : p + 0 ≡ p = omega arith in
    let all : n - 0 ≡ n = omega arith in
    rw (here, all)

pub digits_on : (s : List ℕ) (p n x i : ℕ) → i < n → digits (set s (p + i) (x % 256)) (p + (i + 1)) (n - (i + 1)) (x / 256) ≡ digits s (p + i) (n - i) x
unfolding digits
digits_on s p n x i h =
    let next : p + (i + 1) ≡ suc (p + i) = omega arith in
    let left : n - i ≡ suc (n - (i + 1)) = omega arith in
    rw (next, left)

pub digits_end : (s after : List ℕ) (p n x q m y : ℕ) → p + n ≤ length s → m ≡ 0 → digits after q m y ≡ digits s p n x → Laid s p (to_le n x) after
unfolding digits laid
digits_end s after p n x q m y h e d =
    let long = length_to_le n x in
    let room : p + length (to_le n x) ≤ length s = omega arith in
    let is : after ≡ sets s p (to_le n x) = rw e at d in
    record { room = room; is = is ∙ sets-eq (to_le n x) s p room; long = ap length is ∙ length-sets s p (to_le n x) }

-- one stretch behind another
module _ (s : List ℕ) (p : ℕ) (a b : List ℕ) (room : p + length a ≤ length s) where
  front : length (take p s ++ a) ≡ p + length a
  front = length-append (take p s) a ∙ ap (λ (k : ℕ). k + length a) (length-take-le p s (omega arith))

  rest : drop (p + length a + length b) (take p s ++ a ++ drop (p + length a) s) ≡ drop (p + length (a ++ b)) s
  rest =
      let far : p + length a + length b ≡ p + length (a ++ b) = omega (arith, length-append a b) in
      ap (λ (k : ℕ). drop (k + length b) (take p s ++ a ++ drop (p + length a) s)) (sym front)
      ∙ drop-append-add (take p s ++ a) (drop (p + length a) s) (length b)
      ∙ drop-drop (length b) (p + length a) s
      ∙ ap (λ (k : ℕ). drop k s) far

  laid_on : laid (laid s p a) (p + length a) b ≡ laid s p (a ++ b)
  unfolding laid
  laid_on =
      ap₂ (λ (x y : List ℕ). x ++ b ++ y) (take_at (take p s ++ a) (drop (p + length a) s) (p + length a) front) rest
      ∙ ap (λ (x : List ℕ). x ++ drop (p + length (a ++ b)) s) (append_assoc (take p s) a b)

pub behind : {s : List ℕ} {p : ℕ} {a b : List ℕ} {q : ℕ} {mid after : List ℕ} → Laid s p a mid → Laid mid q b after → q ≡ p + length a → Laid s p (a ++ b) after
behind {s} {p} {a} {b} {q} {mid} {after} f g e =
    record {
      room = omega (arith, length-append a b, f.room, f.long, g.room);
      is = g.is ∙ ap₂ (λ (m : List ℕ) (k : ℕ). laid m k b) f.is e ∙ laid_on s p a b f.room;
      long = g.long ∙ f.long;
    }
