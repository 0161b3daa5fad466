-- Laws of specs/All, as proofs cite them. Nothing here need be believed.
-- Assumes nothing.
use Prim.Native.Nat.{ℕ}
use native.Mathlib.Omega.{arith}
use mathlib.Core.Path.{◌≡◌, ap, ◌∙◌}
use mathlib.Core.Bool.{Bool}
use mathlib.Core.List.{List, []}
use lib.Ieee.{Float}
use Rattle.plane.specs.declared.Point.{Point}
use Rattle.answer.specs.declared.Refusal.{Refusal}
use Rattle.answer.specs.Answers.{Answer, ok, refused, ◌then◌}
use Rattle.answer.proofs.AnswersLaws.{then_inv, ok_inv, zero_one}
use Rattle.answer.proofs.CheckLaws.{le_at}
use Rattle.opened.specs.declared.Opened.{Opened}
use Rattle.reader_order.specs.Order.{ordered, insert_all}
use Rattle.reader_cells.specs.Asked.{candidates_of}
use Rattle.replies.specs.Replies.{Chosen, none, all, listed}
use Rattle.reader_ways.specs.Ways.{Way}
use Rattle.reader_lookup.specs.Asking.{scaled, hit_at}
use Rattle.reader_listing.specs.Steps.{span_of, looked_at}
use Rattle.reader_listing.specs.All.{all_hits, hits_among, hits_of, names_read, placed, list_for, list_by}

-- no zone, whatever the places
pub none_listed : (o : Opened) (s : List ℕ) (places : ℕ) → ok [] ≡ list_for o s places []
unfolding list_for names_read placed ordered insert_all
none_listed o s places = rw (le_at 0 places (omega arith))

-- into that many places
module _ (w : Way) (o : Opened) (s : List ℕ) (lng lat : Float) (places : ℕ) where
  pub into_no : (k : Refusal) → refused k ≡ looked_at (candidates_of o s lng lat) → refused k ≡ list_by w o s lng lat places
  unfolding list_by hits_of
  into_no k h = go (candidates_of o s lng lat) h
    where
      go : (x : Answer Chosen) → refused k ≡ looked_at x → refused k ≡ (x then hits_among w o s (scaled lng lat) then list_for o s places)
      go (ok c) e = let z : ◌≡◌ {A = ℕ} 0 1 = cc in absurd (zero_one z)
      go (refused r) e = ap refused (inside e)
        where
          inside : ◌≡◌ {A = Answer (Bool × ℕ × ℕ)} (refused k) (refused r) → k ≡ r
          inside e = cc

  module _ (p : Point) (e : p ≡ scaled lng lat) (grid : Bool) (n from : ℕ) where
    -- as a choice says
    among : (c : Chosen) → (grid, n, from) ≡ span_of c → (all_hits (hit_at w o s p grid) n from then list_for o s places) ≡ (hits_among w o s p c then list_for o s places)
    unfolding hits_among all_hits
    among none q = ap (λ (t : Bool × ℕ × ℕ). all_hits (hit_at w o s p t.0) t.1 t.2 then list_for o s places) q
    among (all m) q = ap (λ (t : Bool × ℕ × ℕ). all_hits (hit_at w o s p t.0) t.1 t.2 then list_for o s places) q
    among (listed m place) q = ap (λ (t : Bool × ℕ × ℕ). all_hits (hit_at w o s p t.0) t.1 t.2 then list_for o s places) q

    pub into : ok (grid, n, from) ≡ looked_at (candidates_of o s lng lat) → (all_hits (hit_at w o s p grid) n from then list_for o s places) ≡ list_by w o s lng lat places
    unfolding list_by hits_of
    into h =
        let t = then_inv (candidates_of o s lng lat) (λ c. ok (span_of c)) (grid, n, from) h in
        among t.0 (ok_inv _ _ t.2) ∙ ap (λ (q : Point). hits_among w o s q t.0 then list_for o s places) e
        ∙ ap (λ (x : Answer Chosen). x then hits_among w o s (scaled lng lat) then list_for o s places) t.1
