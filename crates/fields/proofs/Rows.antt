-- Laws of specs/Row, as proofs cite them: lengths, both round trips, a row in parts, a row stored. Nothing here need be believed.
-- Assumes nothing.
use Prim.Native.Nat.{ℕ, ◌+◌, ◌≤◌, ◌<◌}
use native.Mathlib.Omega.{arith}
use mathlib.Core.Path.{◌≡◌, refl, sym, ap, ap₂, ◌∙◌}
use mathlib.Core.List.{List, [], ◌∷◌, ◌++◌, append_assoc, append-nil}
use lib.ListN.{length, take, drop, get_or, length-append, take-append-drop}
use lib.Seq.{take-suc, take-length, take-add, drop-drop, length-take-le}
use native.Mathlib.Numerals.{add-one}
use Rattle.fields.specs.Le.{le}
use Rattle.fields.specs.Stores.{to_le, laid, Laid}
use Rattle.fields.specs.Row.{row_wide, row_bytes, row_in, Held, none, one}
use Rattle.fields.proofs.Join.{fits}
use Rattle.fields.proofs.Digits.{number_back, bytes_again}
use Rattle.fields.proofs.StoresLaws.{length_to_le, behind}

-- ---- lengths
pub row_long : (ws ns : List ℕ) → length (row_bytes ws ns) ≡ row_wide ws
unfolding row_bytes
row_long [] ns = refl
row_long (w ∷ ws) [] = omega (arith, length-append (to_le w 0) (row_bytes ws []), length_to_le w 0, row_long ws [])
row_long (w ∷ ws) (n ∷ ns) = omega (arith, length-append (to_le w n) (row_bytes ws ns), length_to_le w n, row_long ws ns)

-- ---- the round trip, both ways
-- the numbers of a row's bytes, wherever they stand
pub row_back : (ws ns front rest : List ℕ) → Held ws ns → row_in ws (front ++ (row_bytes ws ns ++ rest)) (length front) ≡ ns
unfolding row_bytes row_in
row_back [] [] front rest none = refl
row_back (w ∷ ws) (n ∷ ns) front rest (one h hs) =
    let on : front ++ ((to_le w n ++ row_bytes ws ns) ++ rest) ≡ (front ++ to_le w n) ++ (row_bytes ws ns ++ rest) = simp append_assoc in
    let at : length front + w ≡ length (front ++ to_le w n) = omega (arith, length-append front (to_le w n), length_to_le w n) in
    ap₂ (λ (x : ℕ) (xs : List ℕ). x ∷ xs)
    (ap (λ (l : List ℕ). le w (front ++ l) (length front)) (append_assoc (to_le w n) (row_bytes ws ns) rest) ∙ number_back w n front (row_bytes ws ns ++ rest) h)
    (ap₂ (λ (l : List ℕ) (q : ℕ). row_in ws l q) on at ∙ row_back ws ns (front ++ to_le w n) rest hs)
row_back [] (n ∷ ns) front rest x'' = elim x'' [ ]
row_back (w ∷ ws) [] front rest x3 = elim x3 [ ]

-- bytes: each below 256
module _ (s : List ℕ) (byte : (i : ℕ) → get_or s i 0 < 256) where
  -- the numbers that stand in bytes lie in their widths
  pub row_held : (ws : List ℕ) (p : ℕ) → Held ws (row_in ws s p)
  unfolding row_in
  row_held [] p = none
  row_held (w ∷ ws) p = one (fits w s p byte) (row_held ws (p + w))

  -- and have those bytes
  pub row_again : (ws : List ℕ) (p : ℕ) → p + row_wide ws ≤ length s → row_bytes ws (row_in ws s p) ≡ take (row_wide ws) (drop p s)
  unfolding row_bytes row_in
  row_again [] p h = refl
  row_again (w ∷ ws) p h =
      ap₂ (λ (a b : List ℕ). a ++ b) (bytes_again s byte w p (omega arith))
      (row_again ws (p + w) (omega arith) ∙ ap (take (row_wide ws)) (sym (drop-drop w p s)))
      ∙ sym (take-add w (row_wide ws) (drop p s))

-- ---- a row in parts
pub wide_parts : (vs ws : List ℕ) → row_wide (vs ++ ws) ≡ row_wide vs + row_wide ws
wide_parts [] ws = omega arith
wide_parts (v ∷ vs) ws = omega (arith, wide_parts vs ws)

pub bytes_parts : (vs ms ws ns : List ℕ) → length ms ≡ length vs → row_bytes (vs ++ ws) (ms ++ ns) ≡ row_bytes vs ms ++ row_bytes ws ns
unfolding row_bytes
bytes_parts [] [] ws ns e = refl
bytes_parts [] (m ∷ ms) ws ns e = absurd (omega arith)
bytes_parts (v ∷ vs) [] ws ns e = absurd (omega arith)
bytes_parts (v ∷ vs) (m ∷ ms) ws ns e =
    ap (λ (l : List ℕ). to_le v m ++ l) (bytes_parts vs ms ws ns (omega arith)) ∙ sym (append_assoc (to_le v m) (row_bytes vs ms) (row_bytes ws ns))

pub in_parts : (vs ws s : List ℕ) (p : ℕ) → row_in (vs ++ ws) s p ≡ row_in vs s p ++ row_in ws s (p + row_wide vs)
unfolding row_in
in_parts [] ws s p = let here : p ≡ p + 0 = omega arith in ap (row_in ws s) here
in_parts (v ∷ vs) ws s p =
    let on : p + v + row_wide vs ≡ p + (v + row_wide vs) = omega arith in
    ap (λ (l : List ℕ). le v s p ∷ l) (in_parts vs ws s (p + v) ∙ ap (λ (q : ℕ). row_in vs s (p + v) ++ row_in ws s q) on)

-- the first i widths are not more than all
wide_some : (ws : List ℕ) (i : ℕ) → row_wide (take i ws) ≤ row_wide ws
wide_some ws i = omega (arith, wide_parts (take i ws) (drop i ws), ap row_wide (take-append-drop i ws))

-- ---- a row stored, one number behind the other: the first i of them stand
module _ (ws : List ℕ) (i : ℕ) (h : i < length ws) where
  wide_next : row_wide (take (i + 1) ws) ≡ row_wide (take i ws) + get_or ws i 0
  wide_next =
      let last : row_wide (get_or ws i 0 ∷ []) ≡ get_or ws i 0 = omega arith in
      ap (λ (j : ℕ). row_wide (take j ws)) (add-one i) ∙ ap row_wide (take-suc ws i 0 h)
      ∙ wide_parts (take i ws) (get_or ws i 0 ∷ []) ∙ ap (λ (x : ℕ). row_wide (take i ws) + x) last

  -- the next one's place q: it lies in the row
  module _ (p q : ℕ) (e : q ≡ p + row_wide (take i ws)) where
    pub next_room : {n : ℕ} → p + row_wide ws ≤ n → q + get_or ws i 0 ≤ n
    next_room r = omega (arith, wide_next, wide_some ws (i + 1))

    pub next_place : q + get_or ws i 0 ≡ p + row_wide (take (i + 1) ws)
    next_place = omega (arith, wide_next)

    module _ (ns : List ℕ) (k : length ns ≡ length ws) where
      row_next : row_bytes (take (i + 1) ws) (take (i + 1) ns) ≡ row_bytes (take i ws) (take i ns) ++ to_le (get_or ws i 0) (get_or ns i 0)
      unfolding row_bytes
      row_next =
          ap₂ row_bytes (ap (λ (j : ℕ). take j ws) (add-one i) ∙ take-suc ws i 0 h) (ap (λ (j : ℕ). take j ns) (add-one i) ∙ take-suc ns i 0 (omega arith))
          ∙ bytes_parts (take i ws) (take i ns) (get_or ws i 0 ∷ []) (get_or ns i 0 ∷ []) (length-take-le i ns (omega arith) ∙ sym (length-take-le i ws (omega arith)))
          ∙ ap (λ (l : List ℕ). row_bytes (take i ws) (take i ns) ++ l) (append-nil (to_le (get_or ws i 0) (get_or ns i 0)))

      pub next_stored : {s mid after : List ℕ} → Laid s p (row_bytes (take i ws) (take i ns)) mid → Laid mid q (to_le (get_or ws i 0) (get_or ns i 0)) after
          → Laid s p (row_bytes (take (i + 1) ws) (take (i + 1) ns)) after
      next_stored f g = rw row_next (behind f g (e ∙ ap (λ (x : ℕ). p + x) (sym (row_long (take i ws) (take i ns)))))

-- a turn of the loop that stores: the number x, at the width w, is the next of the row
pub one_on : (ws ns : List ℕ) (i p q : ℕ) → i < length ws → length ns ≡ length ws → q ≡ p + row_wide (take i ws) → (j w x : ℕ) → j ≡ i + 1 → w ≡ get_or ws i 0 → x ≡ get_or ns i 0
    → {s mid after : List ℕ} → Laid s p (row_bytes (take i ws) (take i ns)) mid → Laid mid q (to_le w x) after
    → (q + w ≡ p + row_wide (take j ws)) × Laid s p (row_bytes (take j ws) (take j ns)) after
one_on ws ns i p q h k e j w x ej ew ex f g =
    let g' = rw (ew, ex) at g in
    rw (ej, ew) (next_place ws i h p q e, next_stored ws i h p q e ns k f g')

-- nothing stands before the first, and after the last all stand
pub none_stored : (s ws ns : List ℕ) (p : ℕ) → p ≤ length s → Laid s p (row_bytes (take 0 ws) (take 0 ns)) s
unfolding row_bytes laid
none_stored s ws ns p h =
    let here : p + 0 ≡ p = omega arith in
    record { room = omega arith; is = sym (ap₂ (λ (x y : List ℕ). x ++ y) (append-nil (take p s)) (ap (λ (k : ℕ). drop k s) here) ∙ take-append-drop p s); long = refl }

pub all_stored : {s after : List ℕ} {p : ℕ} (ws ns : List ℕ) (i : ℕ) → i ≡ length ws → length ns ≡ length ws → Laid s p (row_bytes (take i ws) (take i ns)) after → Laid s p (row_bytes ws ns) after
all_stored ws ns i e k f =
    let a : take i ws ≡ ws = ap (λ (j : ℕ). take j ws) e ∙ take-length ws in
    let b : take i ns ≡ ns = ap (λ (j : ℕ). take j ns) (e ∙ sym k) ∙ take-length ns in
    rw (a, b) at f

-- ---- a row whose first number stands at p, by places from p on: at widths that are written out each place is p + a number
abbrev pub placed : List ℕ → List ℕ → ℕ → ℕ → List ℕ
placed [] s p k = []
placed (w ∷ ws) s p k = le w s (p + k) ∷ placed ws s p (k + w)

pub by_places : (w : ℕ) (ws s : List ℕ) (p : ℕ) → row_in (w ∷ ws) s p ≡ le w s p ∷ placed ws s p w
unfolding row_in
by_places w ws s p = ap (λ (l : List ℕ). le w s p ∷ l) (go ws w)
  where
    go : (vs : List ℕ) (k : ℕ) → row_in vs s (p + k) ≡ placed vs s p k
    go [] k = refl
    go (v ∷ vs) k =
        let on : p + k + v ≡ p + (k + v) = omega arith in
        ap (λ (l : List ℕ). le v s (p + k) ∷ l) (ap (row_in vs s) on ∙ go vs (k + v))
