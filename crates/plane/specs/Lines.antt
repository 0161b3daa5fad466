-- Lines of points and closed rings of lines, for any test `seg` of a segment: where a line may be cut, that it may be turned round, and what it comes to where each segment only tells its two ends apart.
use Rattle.std.specs.Prelude.{◌≡◌, refl, Bool, true, false, ◌&&◌, ◌||◌, cond, pos}
use Rattle.std.proofs.Common.{sym, ap, ap₂, ◌∙◌}
use mathlib.Core.List.{List, [], ◌∷◌, ◌++◌, map, reverse, reverse_aux}
use Rattle.basics.specs.Truth.{and_i, and_l, and_r}
use Rattle.basics.specs.Parity.{◌⊻◌, ⊻_self, ⊻_mid}
use Rattle.plane.specs.declared.I32Point.{I32Point}
use Rattle.plane.specs.Sight.{Sight}
use Rattle.plane.specs.Tally.{Off, ◌⊕◌, none, ⊕_idl, ⊕_idr, ⊕_assoc, ⊕_swap}
use Rattle.plane.specs.Turns.{same_true}
use Rattle.plane.specs.Segment.{same_point}

-- ---- first and last point
abbrev pub origin : I32Point
origin = record { x = pos 0; y = pos 0 }

abbrev pub last_from : I32Point → List I32Point → I32Point
last_from a [] = a
last_from a (b ∷ r) = last_from b r

-- of an empty list, any point will do
abbrev pub first_of : List I32Point → I32Point
first_of [] = origin
first_of (a ∷ r) = a

abbrev pub last_of : List I32Point → I32Point
last_of [] = origin
last_of (a ∷ r) = last_from a r

pub last_append : (a : I32Point) (r : List I32Point) (b : I32Point) (s : List I32Point) → last_from a (r ++ (b ∷ s)) ≡ last_from b s
last_append a [] b s = refl
last_append a (c ∷ r) b s = last_append c r b s

first_turned : (a : I32Point) (r acc : List I32Point) → first_of (reverse_aux r (a ∷ acc)) ≡ last_from a r
first_turned a [] acc = refl
first_turned a (b ∷ r) acc = first_turned b r (a ∷ acc)

last_turned : (a : I32Point) (r acc : List I32Point) → last_of (reverse_aux r (a ∷ acc)) ≡ last_from a acc
last_turned a [] acc = refl
last_turned a (b ∷ r) acc = last_turned b r (a ∷ acc)

pub first_reverse : (l : List I32Point) → first_of (reverse l) ≡ last_of l
first_reverse [] = refl
first_reverse (a ∷ r) = first_turned a r []

pub last_reverse : (l : List I32Point) → last_of (reverse l) ≡ first_of l
last_reverse [] = refl
last_reverse (a ∷ r) = last_turned a r []

-- ---- every element of a list, and some element
module _ {A : Type 0} where
  abbrev pub every : (A → Bool) → List A → Bool
  every P [] = true
  every P (a ∷ r) = P a && every P r

  abbrev pub some : (A → Bool) → List A → Bool
  some P [] = false
  some P (a ∷ r) = P a || some P r

  pub every_append : (P : A → Bool) (l m : List A) → every P l ≡ true → every P m ≡ true → every P (l ++ m) ≡ true
  every_append P [] m h k = k
  every_append P (a ∷ r) m h k = and_i (P a) (every P (r ++ m)) (and_l (P a) (every P r) h) (every_append P r m (and_r (P a) (every P r) h) k)

  pub every_prefix : (P : A → Bool) (l m : List A) → every P (l ++ m) ≡ true → every P l ≡ true
  every_prefix P [] m h = refl
  every_prefix P (a ∷ r) m h = and_i (P a) (every P r) (and_l (P a) (every P (r ++ m)) h) (every_prefix P r m (and_r (P a) (every P (r ++ m)) h))

  -- a weaker test
  pub every_weaken : (P Q : A → Bool) → ((a : A) → P a ≡ true → Q a ≡ true) → (l : List A) → every P l ≡ true → every Q l ≡ true
  every_weaken P Q f [] h = refl
  every_weaken P Q f (a ∷ r) h = and_i (Q a) (every Q r) (f a (and_l (P a) (every P r) h)) (every_weaken P Q f r (and_r (P a) (every P r) h))

  -- two tests that agree where a third passes
  pub some_agree : (R P Q : A → Bool) → ((a : A) → R a ≡ true → P a ≡ Q a) → (l : List A) → every R l ≡ true → some P l ≡ some Q l
  some_agree R P Q f [] h = refl
  some_agree R P Q f (a ∷ r) h = ap₂ ◌||◌ (f a (and_l (R a) (every R r) h)) (some_agree R P Q f r (and_r (R a) (every R r) h))

  pub some_none : (R P : A → Bool) → ((a : A) → R a ≡ true → P a ≡ false) → (l : List A) → every R l ≡ true → some P l ≡ false
  some_none R P f [] h = refl
  some_none R P f (a ∷ r) h = ap₂ ◌||◌ (f a (and_l (R a) (every R r) h)) (some_none R P f r (and_r (R a) (every R r) h))

pub every_last : (P : I32Point → Bool) (a : I32Point) (r : List I32Point) → P a ≡ true → every P r ≡ true → P (last_from a r) ≡ true
every_last P a [] p q = p
every_last P a (b ∷ r) p q = every_last P b r (and_l (P b) (every P r) q) (and_r (P b) (every P r) q)

-- ---- a stretch of a ring: where it begins and ends, and what is seen along it
pub record Stretch : Type 0 where
  pub from : I32Point
  pub to : I32Point
  pub tally : Sight

pub stretch_is : {a b c d : I32Point} {u v : Sight} → a ≡ b → c ≡ d → u ≡ v → ◌≡◌ {A = Stretch} (record { from = a; to = c; tally = u }) (record { from = b; to = d; tally = v })
stretch_is {a} {b} {c} {d} {u} {v} p q r = ap₂ (λ (x : I32Point) (y : I32Point). record { from = x; to = y; tally = u }) p q ∙ ap (λ (t : Sight). record { from = b; to = d; tally = t }) r

module _ (seg : I32Point → I32Point → Sight) where
  -- the segments from a on through the points of a list
  abbrev pub chain : I32Point → List I32Point → Sight
  chain a [] = none
  chain a (b ∷ r) = seg a b ⊕ chain b r

  -- the segments between neighbouring points
  abbrev pub line : List I32Point → Sight
  line [] = none
  line (a ∷ r) = chain a r

  -- from the end of one stretch to the start of the next: a segment, wherever the two differ
  abbrev pub link : I32Point → I32Point → Sight
  link a b = cond (same_point a b) none (seg a b)

  abbrev pub onward : I32Point → I32Point → List Stretch → Sight
  onward first last [] = link last first
  onward first last (s ∷ ss) = link last s.from ⊕ (s.tally ⊕ onward first s.to ss)

  -- all stretches, with the links between them and round to the start
  abbrev pub around : List Stretch → Sight
  around [] = none
  around (s ∷ ss) = s.tally ⊕ onward s.from s.to ss

  abbrev pub stretch : List I32Point → Stretch
  stretch l = record { from = first_of l; to = last_of l; tally = line l }

  -- a ring of lines
  abbrev pub ring_tally : List (List I32Point) → Sight
  ring_tally ls = around (map stretch ls)

  -- ---- a line may be cut at any of its points
  pub chain_joint : (a : I32Point) (r : List I32Point) (b : I32Point) (s : List I32Point) → chain a (r ++ (b ∷ s)) ≡ chain a (r ++ (b ∷ [])) ⊕ chain b s
  chain_joint a [] b s = ap (λ t. t ⊕ chain b s) (sym (⊕_idr (seg a b)))
  chain_joint a (c ∷ r) b s = ap (λ t. seg a c ⊕ t) (chain_joint c r b s) ∙ sym (⊕_assoc (seg a c) (chain c (r ++ (b ∷ []))) (chain b s))

  pub line_joint : (r : List I32Point) (b : I32Point) (s : List I32Point) → line (r ++ (b ∷ s)) ≡ line (r ++ (b ∷ [])) ⊕ line (b ∷ s)
  line_joint [] b s = sym (⊕_idl (chain b s))
  line_joint (a ∷ r) b s = chain_joint a r b s

  -- the segment at a cut
  pub chain_last : (a : I32Point) (r : List I32Point) (b : I32Point) → chain a (r ++ (b ∷ [])) ≡ chain a r ⊕ seg (last_from a r) b
  chain_last a [] b = ⊕_idr (seg a b) ∙ sym (⊕_idl (seg a b))
  chain_last a (c ∷ r) b = ap (λ t. seg a c ⊕ t) (chain_last c r b) ∙ sym (⊕_assoc (seg a c) (chain c r) (seg (last_from c r) b))

  -- ---- and turned round, if a segment may
  module _ (swap : (a b : I32Point) → seg a b ≡ seg b a) where
    turned : (a : I32Point) (r acc : List I32Point) → line (reverse_aux r (a ∷ acc)) ≡ chain a acc ⊕ chain a r
    turned a [] acc = sym (⊕_idr (chain a acc))
    turned a (b ∷ r) acc =
        turned b r (a ∷ acc)
        ∙ ap (λ t. t ⊕ chain a acc ⊕ chain b r) (swap b a)
        ∙ ⊕_assoc (seg a b) (chain a acc) (chain b r)
        ∙ ⊕_swap (seg a b) (chain a acc) (chain b r)

    pub line_reverse : (l : List I32Point) → line (reverse l) ≡ line l
    line_reverse [] = refl
    line_reverse (a ∷ r) = turned a r [] ∙ ⊕_idl (chain a r)

    pub stretch_reverse : (l : List I32Point) → stretch (reverse l) ≡ record { from = last_of l; to = first_of l; tally = line l }
    stretch_reverse l = stretch_is (first_reverse l) (last_reverse l) (line_reverse l)

  -- ---- where each segment only tells its ends apart by h, so does a line, and a closed ring comes to nothing
  module _ (h : I32Point → Bool) (P : I32Point → Bool) (tells : (a b : I32Point) → P a ≡ true → P b ≡ true → seg a b ≡ Off (h a ⊻ h b)) where
    pub chain_tells : (a : I32Point) (r : List I32Point) → P a ≡ true → every P r ≡ true → chain a r ≡ Off (h a ⊻ h (last_from a r))
    chain_tells a [] p q = ap Off (sym (⊻_self (h a)))
    chain_tells a (b ∷ r) p q =
        ap₂ ◌⊕◌ (tells a b p (and_l (P b) (every P r) q)) (chain_tells b r (and_l (P b) (every P r) q) (and_r (P b) (every P r) q))
        ∙ ap Off (⊻_mid (h a) (h b) (h (last_from b r)))

    pub line_tells : (l : List I32Point) → every P l ≡ true → line l ≡ Off (h (first_of l) ⊻ h (last_of l))
    line_tells [] q = ap Off (sym (⊻_self (h origin)))
    line_tells (a ∷ r) q = chain_tells a r (and_l (P a) (every P r) q) (and_r (P a) (every P r) q)

    link_tells : (a b : I32Point) → P a ≡ true → P b ≡ true → link a b ≡ Off (h a ⊻ h b)
    link_tells a b p q = go (same_point a b) refl
      where
        go : (t : Bool) → same_point a b ≡ t → cond t none (seg a b) ≡ Off (h a ⊻ h b)
        go true e = ap Off (sym (⊻_self (h a)) ∙ ap (λ c. h a ⊻ h c) (same_true a b e))
        go false e = tells a b p q

    -- a stretch that does
    pub record Tells (s : Stretch) : Type 0 where
      pub from_in : P s.from ≡ true
      pub to_in : P s.to ≡ true
      pub told : s.tally ≡ Off (h s.from ⊻ h s.to)

    abbrev pub AllTell : List Stretch → Type 0
    AllTell [] = Unit {0}
    AllTell (s ∷ ss) = Tells s × AllTell ss

    onward_tells : (first last : I32Point) (ss : List Stretch) → P first ≡ true → P last ≡ true → AllTell ss → onward first last ss ≡ Off (h last ⊻ h first)
    onward_tells first last [] p q t = link_tells last first q p
    onward_tells first last (s ∷ ss) p q t =
        ap₂ ◌⊕◌ (link_tells last s.from q t.0.from_in) (ap₂ ◌⊕◌ t.0.told (onward_tells first s.to ss p t.0.to_in t.1) ∙ ap Off (⊻_mid (h s.from) (h s.to) (h first)))
        ∙ ap Off (⊻_mid (h last) (h s.from) (h first))

    pub around_tells : (ss : List Stretch) → AllTell ss → around ss ≡ none
    around_tells [] t = refl
    around_tells (s ∷ ss) t =
        ap₂ ◌⊕◌ t.0.told (onward_tells s.from s.to ss t.0.from_in t.0.to_in t.1)
        ∙ ap Off (⊻_mid (h s.from) (h s.to) (h s.from) ∙ ⊻_self (h s.from))
