-- Several bytes at once: where none has its top bit, each is a character.
-- Assumes nothing.
use mathlib.Core.Path.{◌≡◌, refl, sym, ap, ap₂, ◌∙◌, subst}
use mathlib.Core.Bool.{Bool, true, false, not, ◌||◌}
use mathlib.Core.List.{List, []}
use mathlib.Core.Option.{some}
use Prim.Native.Nat.{ℕ, zero, suc, ◌+◌, ◌-◌, ◌*◌, ◌≤◌, ◌<◌}
use native.Mathlib.Nat.{add-zero}
use native.Mathlib.Omega.{arith}
use lib.Bits.{bit_and, and_block}
use lib.Dec.{T, ltb, eqb, ltb→lt}
use lib.ListN.{length, get_or, drop}
use borrow.Author.Tests.{eq-eqb, ltb-true, ltb-false}
use Rattle.fields.specs.Le.{le}
use Rattle.utf8.specs.Rfc3629.{on, utf8}
use Rattle.utf8.proofs.Between.{between, lead_by}
use Rattle.utf8.proofs.Steps.{begin}
use Rattle.utf8.specs.Steps.{Plain}

-- the top bit of each of n bytes
abbrev pub tops : ℕ → ℕ
tops zero = 0
tops (suc n) = 128 + 256 * tops n

abbrev test : ℕ → Bool
test b = not (eqb (bit_and b 128) 0) || ltb b 128

passed : (b : ℕ) → T (not (eqb (bit_and b 128) 0) || ltb b 128) → bit_and b 128 ≡ 0 → b < 128
passed b t e = go (eqb (bit_and b 128) 0) (eq-eqb (bit_and b 128) 0 e) t
  where
    go : (x : Bool) → x ≡ true → T (not x || ltb b 128) → b < 128
    go true q t = ltb→lt b 128 t
    go false q t = absurd (let z : ◌≡◌ {A = ℕ} 0 1 = cc in omega arith)

low : (b : ℕ) → b < 256 → bit_and b 128 ≡ 0 → b < 128
low b h e = passed b (between test 0 256 tt b (omega arith) (omega arith)) e

-- one of them; one stretch, and the next
one : (s : List ℕ) (i : ℕ) → get_or s i 0 < 128 → Plain s i (i + 1)
one s i h k a b = let e : i ≡ k = omega arith in subst (λ (j : ℕ). get_or s j 0 < 128) e h

pub join : (s : List ℕ) (i m j : ℕ) → Plain s i m → Plain s m j → Plain s i j
join s i m j f g k a b = go (ltb k m) refl
  where
    go : (t : Bool) → ltb k m ≡ t → get_or s k 0 < 128
    go true e = f k a (ltb-true k m e)
    go false e = g k (ltb-false k m e) b

-- n bytes, none of which has its top bit
pub untopped : (s : List ℕ) → ((i : ℕ) → get_or s i 0 < 256) → (n p : ℕ) → bit_and (le n s p) (tops n) ≡ 0 → Plain s p (p + n)
unfolding le
untopped s bytes zero p e = λ k a b. absurd (omega arith)
untopped s bytes (suc n) p e =
    let c = get_or s p 0 in
    let l = le n s (p + 1) in
    let x : c + 256 * l ≡ l * 256 + c = omega arith in
    let y : 128 + 256 * tops n ≡ tops n * 256 + 128 = omega arith in
    let z : bit_and l (tops n) * 256 + bit_and c 128 ≡ 0 = sym (ap₂ bit_and x y ∙ and_block 8 l (tops n) c 128 (bytes p) (omega arith)) ∙ e in
    let more = untopped s bytes n (p + 1) (omega arith) in
    join s p (p + 1) (p + suc n) (one s p (low c (bytes p) (omega arith))) (λ k a b. more k a (omega arith))

-- past them
pub passed_over : (s : List ℕ) (n p : ℕ) → p + n ≤ length s → Plain s p (p + n) → utf8 [] (drop p s) ≡ utf8 [] (drop (p + n) s)
passed_over s zero p h f = ap (λ (q : ℕ). utf8 [] (drop q s)) (sym (add-zero p))
passed_over s (suc n) p h f =
    let q : p + 1 + n ≡ p + suc n = omega arith in
    begin s p (omega arith)
    ∙ ap (λ o. on o (λ rs. utf8 rs (drop (p + 1) s))) (lead_by (some []) 0 128 (get_or s p 0) tt (omega arith) (f p (omega arith) (omega arith)))
    ∙ passed_over s n (p + 1) (omega arith) (λ k a b. f k (omega arith) (omega arith))
    ∙ ap (λ (k : ℕ). utf8 [] (drop k s)) q

pub past_plain : (s : List ℕ) (i j : ℕ) → i ≤ j → j ≤ length s → Plain s i j → utf8 [] (drop i s) ≡ utf8 [] (drop j s)
past_plain s i j a b f =
    let e : i + (j - i) ≡ j = omega arith in
    passed_over s (j - i) i (omega arith) (subst (Plain s i) (sym e) f) ∙ ap (λ (k : ℕ). utf8 [] (drop k s)) e
