-- Lists laid over lent numbers, piece by piece, and in two rows at once: stripes' entries and chunk numbers. Nothing here need be believed.
-- Assumes nothing.
use Prim.Native.Nat.{ℕ, zero, suc, ◌+◌, ◌-◌, ◌*◌, ◌≤◌}
use native.Mathlib.Omega.{arith}
use mathlib.Core.Path.{◌≡◌, refl, sym, ap, ap₂, ◌∙◌}
use mathlib.Core.List.{List, [], ◌∷◌, ◌++◌, append_assoc, append-nil}
use lib.ListN.{length, length-append}
use borrow.Rule.Slice.PartMut.{put_mid}
use Rattle.answer.specs.Over.{over}
use Rattle.answer.proofs.OverLaws.{Written, wrote, ◌behind◌, over_none, over_on, over_all, length_over}
use Rattle.stripes.specs.Numbers.{low, high, stripe_entries, together}
use Rattle.stripes.proofs.NeedLaws.{stripe_entries_length}
use Rattle.reader_stripes.specs.declared.Places.{Places}
use Rattle.reader_stripes.specs.Steps.{stripe_entry, Rooms, Striped}

-- two lists that lie apart, in either order
pub over_apart : (s : List ℕ) (p q : ℕ) (a b : List ℕ) → p + length a ≤ q → over (over s q b) p a ≡ over (over s p a) q b
unfolding over
over_apart [] p q a b h = refl
over_apart (x ∷ s) (suc p) (suc q) a b h = ap (λ (l : List ℕ). x ∷ l) (over_apart s p q a b (omega arith))
over_apart (x ∷ s) (suc p) zero a b h = absurd (omega arith)
over_apart (x ∷ s) zero q [] b h = over_none (over (x ∷ s) q b) zero
over_apart (x ∷ s) zero (suc q) (c ∷ a) b h = ap (λ (l : List ℕ). c ∷ l) (over_apart s zero q a b (omega arith))
over_apart (x ∷ s) zero zero (c ∷ a) b h = absurd (omega arith)

-- ---- a row copied into a part
pub over_mid : (s : List ℕ) (p : ℕ) (row : List ℕ) → p + length row ≤ length s → put_mid p (length row) s row ≡ over s p row
unfolding over
over_mid s zero row h = sym (over_all s row (omega arith))
over_mid [] (suc p) row h = absurd (omega arith)
over_mid (x ∷ s) (suc p) row h = ap (λ (l : List ℕ). x ∷ l) (over_mid s p row (omega arith))

-- ---- a list laid piece by piece: what is left of it, the place that comes next, and the numbers so far
pub record Laying (s : List ℕ) (p : ℕ) (all rest : List ℕ) (q : ℕ) (now : List ℕ) : Type 0 where
  pub done : List ℕ
  pub whole : done ++ rest ≡ all
  pub laid : Written s p done q now

module _ (s : List ℕ) (p : ℕ) (all : List ℕ) where
  pub laying_start : (rest : List ℕ) → rest ≡ all → Laying s p all rest p s
  laying_start rest e = record { done = []; whole = e; laid = wrote (omega arith) (sym (over_none s p)) }

  module _ (rest : List ℕ) (q : ℕ) (now : List ℕ) (g : Laying s p all rest q now) where
    pub laying_same : length now ≡ length s
    laying_same = ap length g.laid.is ∙ length_over s p g.done

    pub laying_place : q + length rest ≡ p + length all
    laying_place = omega (arith, g.laid.next, length-append g.done rest, ap length g.whole)

    -- room for the first of what is left
    pub laying_room : p + length all ≤ length s → (a more : List ℕ) → rest ≡ a ++ more → q + length a ≤ length now
    laying_room h a more e = omega (arith, laying_place, laying_same, ap length e, length-append a more)

    pub laying_on : (a more : List ℕ) (r : ℕ) (after : List ℕ) → rest ≡ a ++ more → r ≡ q + length a → after ≡ over now q a → Laying s p all more r after
    laying_on a more r after e f k =
        record { done = g.done ++ a; whole = append_assoc g.done a more ∙ ap (λ (t : List ℕ). g.done ++ t) (sym e) ∙ g.whole; laid = g.laid behind wrote f k }

    -- none is left
    pub laying_end : rest ≡ [] → Written s p all q now
    laying_end e =
        let d : g.done ≡ all = sym (append-nil g.done) ∙ ap (λ (t : List ℕ). g.done ++ t) (sym e) ∙ g.whole in
        rw d at g.laid

-- ---- stripes
pub together_append : (a b : List (List ℕ)) → together (a ++ b) ≡ together a ++ together b
unfolding together
together_append [] b = refl
together_append (t ∷ a) b = ap (λ (l : List ℕ). t ++ l) (together_append a b) ∙ sym (append_assoc t (together a) (together b))

entries_append : (a b : List (List ℕ)) (p q : ℕ) → q ≡ p + length (together a) → stripe_entries (a ++ b) p ≡ stripe_entries a p ++ stripe_entries b q
unfolding stripe_entries together
entries_append [] b p q e = ap (stripe_entries b) (omega arith)
entries_append (t ∷ a) b p q e =
    ap (λ (l : List ℕ). low p ∷ high p ∷ length t ∷ l) (entries_append a b (p + length t) q (omega (arith, length-append t (together a))))

module _ (m : List ℕ) (p : Places) where
  pub striped_none : Striped m p [] p m
  unfolding stripe_entries together
  striped_none = record {
    stripe = omega arith;
    chunk = omega arith;
    is = sym (over_none (over m p.stripe []) p.chunk ∙ over_none m p.stripe);
  }

  -- one stripe: its chunk numbers, then its entry
  pub striped_one : (t mid after : List ℕ) (to : ℕ) (q : Places) → Rooms m p (t ∷ []) → to ≡ p.chunk + length t → mid ≡ over m p.chunk t → after ≡ over mid p.stripe (stripe_entry p.chunk to)
      → q.stripe ≡ p.stripe + 3 → q.chunk ≡ to → Striped m p (t ∷ []) q after
  unfolding stripe_entries together stripe_entry
  striped_one t mid after to q room e f k g h =
      let n : to - p.chunk ≡ length t = omega arith in
      let whole : t ++ [] ≡ t = append-nil t in
      record {
        stripe = g;
        chunk = h ∙ e ∙ ap (λ (l : List ℕ). p.chunk + length l) (sym whole);
        is =
            k
            ∙ ap₂ (λ (l : List ℕ) (j : ℕ). over l p.stripe (low p.chunk ∷ high p.chunk ∷ j ∷ [])) f n
            ∙ over_apart m p.stripe p.chunk (low p.chunk ∷ high p.chunk ∷ length t ∷ []) t (omega (arith, room.stripes))
            ∙ ap (over (over m p.stripe (low p.chunk ∷ high p.chunk ∷ length t ∷ [])) p.chunk) (sym whole);
      }

  -- stripes behind stripes
  pub striped_on : (a b : List (List ℕ)) (q r : Places) (mid after : List ℕ) → Striped m p a q mid → Striped mid q b r after → p.stripe + 3 * (length a + length b) ≤ p.chunk → Striped m p (a ++ b) r after
  striped_on a b q r mid after f g h =
      record {
        stripe = omega (arith, f.stripe, g.stripe, length-append a b);
        chunk = omega (arith, f.chunk, g.chunk, length-append (together a) (together b), ap length (together_append a b));
        is =
            g.is
            ∙ ap (λ (l : List ℕ). over (over l q.stripe eb) q.chunk tb) f.is
            ∙ ap (λ (l : List ℕ). over l q.chunk tb) (over_apart (over m p.stripe ea) q.stripe p.chunk eb ta (omega (arith, f.stripe, stripe_entries_length b q.chunk)))
            ∙ ap₂ (λ (j k : ℕ). over (over (over (over m p.stripe ea) j eb) p.chunk ta) k tb) (f.stripe ∙ ap (λ (j : ℕ). p.stripe + j) (sym (stripe_entries_length a p.chunk))) f.chunk
            ∙ over_on (over (over m p.stripe ea) (p.stripe + length ea) eb) p.chunk ta tb
            ∙ ap (λ (l : List ℕ). over l p.chunk (ta ++ tb)) (over_on m p.stripe ea eb)
            ∙ ap₂ (λ (x y : List ℕ). over (over m p.stripe x) p.chunk y) (sym (entries_append a b p.chunk q.chunk f.chunk)) (sym (together_append a b));
      }
    where
      ea : List ℕ
      ea = stripe_entries a p.chunk

      eb : List ℕ
      eb = stripe_entries b q.chunk

      ta : List ℕ
      ta = together a

      tb : List ℕ
      tb = together b

-- ---- stripes laid piece by piece
pub record Going (m : List ℕ) (p : Places) (all rest : List (List ℕ)) (q : Places) (now : List ℕ) : Type 0 where
  pub done : List (List ℕ)
  pub whole : done ++ rest ≡ all
  pub laid : Striped m p done q now

module _ (m : List ℕ) (p : Places) (all : List (List ℕ)) where
  pub going_start : (rest : List (List ℕ)) → rest ≡ all → Going m p all rest p m
  going_start rest e = record { done = []; whole = e; laid = striped_none m p }

  module _ (rest : List (List ℕ)) (q : Places) (now : List ℕ) (g : Going m p all rest q now) where
    pub going_same : length now ≡ length m
    going_same = ap length g.laid.is ∙ length_over (over m p.stripe (stripe_entries g.done p.chunk)) p.chunk (together g.done) ∙ length_over m p.stripe (stripe_entries g.done p.chunk)

    module _ (room : Rooms m p all) where
      many : length g.done + length rest ≡ length all
      many = sym (length-append g.done rest) ∙ ap length g.whole

      long : length (together g.done) + length (together rest) ≡ length (together all)
      long = sym (length-append (together g.done) (together rest)) ∙ ap length (sym (together_append g.done rest)) ∙ ap (λ (l : List (List ℕ)). length (together l)) g.whole

      -- room for what is left
      pub going_room : Rooms now q rest
      going_room = record { stripes = omega (arith, room.stripes, g.laid.stripe, g.laid.chunk, many); chunks = omega (arith, room.chunks, g.laid.chunk, long, going_same) }

      pub going_on : (a more : List (List ℕ)) (r : Places) (after : List ℕ) → rest ≡ a ++ more → Striped now q a r after → Going m p all more r after
      going_on a more r after e k =
          record {
            done = g.done ++ a;
            whole = append_assoc g.done a more ∙ ap (λ (t : List (List ℕ)). g.done ++ t) (sym e) ∙ g.whole;
            laid = striped_on m p g.done a q r now after g.laid k (omega (arith, room.stripes, many, ap length e, length-append a more));
          }

    -- none is left
    pub going_end : rest ≡ [] → Striped m p all q now
    going_end e =
        let d : g.done ≡ all = sym (append-nil g.done) ∙ ap (λ (t : List (List ℕ)). g.done ++ t) (sym e) ∙ g.whole in
        rw d at g.laid

pub room_one : (m : List ℕ) (p : Places) (t : List ℕ) → Rooms m p (t ∷ []) → (p.stripe + 3 ≤ p.chunk) × (p.chunk + length t ≤ length m)
unfolding together
room_one m p t room = (omega (arith, room.stripes), omega (arith, room.chunks, length-append t []))

-- room for the first of what is left
pub room_first : (m : List ℕ) (p : Places) (a more rest : List (List ℕ)) → rest ≡ a ++ more → Rooms m p rest → Rooms m p a
room_first m p a more rest e room =
    let n : length rest ≡ length a + length more = ap length e ∙ length-append a more in
    let t : length (together rest) ≡ length (together a) + length (together more) = ap (λ (l : List (List ℕ)). length (together l)) e ∙ ap length (together_append a more) ∙ length-append (together a) (together more) in
    record { stripes = omega (arith, room.stripes); chunks = omega (arith, room.chunks) }
