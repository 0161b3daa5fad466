-- Any two answers that a promise allows are equal: stated over the contracts themselves. A part of the file that is handed back is fixed by its bytes and its place.
-- Assumes nothing.
use mathlib.Core.Path.{◌≡◌, sym, ◌∙◌}
use Prim.Native.Nat.{ℕ}
use mathlib.Core.List.{List}
use denote.Ref.{Bor}
use Rattle.basics.specs.Determined.{Determined}
use Rattle.reader_named.proofs.name_bounds.Reads as name-bounds-reads
use Rattle.reader_named.proofs.name.Reads as name-reads
use Rattle.reader_named.proofs.name_refusal.Reads as name-refusal-reads

-- the same for a promise whose answer is lent: any two that it allows are the same bytes at the same place in memory. (Of a reference the logic also has a name, by which proofs follow it; no code sees it.)
abbrev pub SamePart : {K : Type 0} {A E : K → Type 0} → ((κ : K) → A κ → Bor (List ℕ) → E κ → Type 0) → Type 0
SamePart {K} {A} {E} promise = (κ : K) (a : A κ) (r r' : Bor (List ℕ)) (e e' : E κ) → promise κ a r e → promise κ a r' e' → (r.now ≡ r'.now) × (r.ref_ptr ≡ r'.ref_ptr)

pub name : SamePart name-reads.Learnt
name κ a r r' e e' p q = (p.0 ∙ sym q.0, p.1 ∙ sym q.1)

pub name_refusal : Determined name-refusal-reads.Learnt
name_refusal κ a r r' e e' p q = p ∙ sym q

pub name_bounds : Determined name-bounds-reads.Learnt
name_bounds κ a r r' e e' p q = p ∙ sym q
