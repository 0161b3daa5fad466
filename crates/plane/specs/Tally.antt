-- What a walk has seen so far: the point lies on a segment, or on none, with the parity of the segments counted. A commutative monoid in which On absorbs.
-- Assumes nothing.
use Rattle.std.specs.Prelude.{◌≡◌, refl, Bool, false}
use Rattle.std.proofs.Common.{sym, ap, ◌∙◌}
use Rattle.basics.specs.Parity.{◌⊻◌, ⊻_idr, ⊻_comm, ⊻_assoc}
use Rattle.plane.specs.Sight.{Sight}
pub use Rattle.plane.specs.Sight.{On, Off}

-- as a walk adds up: once On, the rest is not looked at
infixl 35 ◌⊕◌
abbrev pub ◌⊕◌ : Sight → Sight → Sight
On ⊕ t = On
Off p ⊕ On = On
Off p ⊕ Off q = Off (p ⊻ q)

-- nothing seen
abbrev pub none : Sight
none = Off false

pub ⊕_idl : (t : Sight) → none ⊕ t ≡ t
⊕_idl On = refl
⊕_idl (Off p) = refl

pub ⊕_idr : (t : Sight) → t ⊕ none ≡ t
⊕_idr On = refl
⊕_idr (Off p) = ap Off (⊻_idr p)

pub ⊕_on : (t : Sight) → t ⊕ On ≡ On
⊕_on On = refl
⊕_on (Off p) = refl

pub ⊕_comm : (s t : Sight) → s ⊕ t ≡ t ⊕ s
⊕_comm On t = sym (⊕_on t)
⊕_comm (Off p) On = refl
⊕_comm (Off p) (Off q) = ap Off (⊻_comm p q)

pub ⊕_assoc : (s t u : Sight) → s ⊕ t ⊕ u ≡ s ⊕ (t ⊕ u)
⊕_assoc On t u = refl
⊕_assoc (Off p) On u = refl
⊕_assoc (Off p) (Off q) On = refl
⊕_assoc (Off p) (Off q) (Off r) = ap Off (⊻_assoc p q r)

-- the second summand first
pub ⊕_swap : (s t u : Sight) → s ⊕ (t ⊕ u) ≡ t ⊕ (s ⊕ u)
⊕_swap s t u = sym (⊕_assoc s t u) ∙ ap (λ x. x ⊕ u) (⊕_comm s t) ∙ ⊕_assoc t s u

-- the answer, where a point on a segment gets `edge`
abbrev pub verdict : Bool → Sight → Bool
verdict edge On = edge
verdict edge (Off p) = p
