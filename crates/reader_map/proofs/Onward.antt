-- A text that is laid piece by piece: what remains, laid from here, is the whole.
-- Assumes nothing.
use Prim.Native.Nat.{ℕ, zero, suc, ◌+◌, ◌-◌, ◌*◌, ◌≤◌, ◌<◌}
use native.Mathlib.Nat.{suc-mul}
use native.Mathlib.Omega.{arith}
use mathlib.Core.Path.{◌≡◌, refl, sym, ap, ap₂, ◌∙◌, subst}
use mathlib.Core.Bool.{Bool, true, false, ◌&&◌, false≢true}
use mathlib.Core.List.{List, [], ◌∷◌, ◌++◌}
use lib.ListN.{length}
use Rattle.plane.specs.Lines.{every}
use Rattle.plane.specs.Runs.{run}
use Rattle.answer.specs.declared.Refusal.{Refusal}
use Rattle.answer.specs.Refusals.{refusal}
use Rattle.answer.specs.Answers.{Answer, ok, refused, need}
use Rattle.answer.proofs.AnswersLaws.{need_met, need_not, need_inv, ok_inv, zero_one}
use Rattle.answer.specs.Over.{over}
use Rattle.answer.proofs.OverLaws.{Written, wrote, ◌behind◌, length_over}
use Rattle.reader_map.specs.Steps.{to_come, DrawnAs}
use Rattle.reader_map.proofs.Rows.{run_first}

pub record Onward (out : List ℕ) (at : ℕ) (rest : List ℕ) (before : List ℕ) (from : ℕ) (whole : List ℕ) : Type 0 where
  pub laid : over out at rest ≡ over before from whole
  pub ends : at + length rest ≡ from + length whole

-- a piece more
onward_step : {out : List ℕ} {at : ℕ} {rest before : List ℕ} {from : ℕ} {whole a : List ℕ} {q : ℕ} {after more : List ℕ}
    → Onward out at rest before from whole → Written out at a q after → rest ≡ a ++ more → Onward after q more before from whole
onward_step {out} {at} {q = q} {after = after} {more = more} g w e =
    let b = w behind wrote {s = after} {p = q} {a = more} refl refl in
    record {
      laid = b.is ∙ ap (over out at) (sym e) ∙ g.laid;
      ends = b.next ∙ ap (λ (t : List ℕ). at + length t) (sym e) ∙ g.ends;
    }

-- the last piece
onward_end : {out : List ℕ} {at : ℕ} {rest before : List ℕ} {from : ℕ} {whole : List ℕ} {q : ℕ} {after : List ℕ}
    → Onward out at rest before from whole → Written out at rest q after → Written before from whole q after
onward_end g w = record { next = w.next ∙ g.ends; is = w.is ∙ g.laid }

-- ---- what was drawn
-- a refusal that stands for what does not hold
pub refused_need : {A : Type 0} (b : Bool) (a : A) (k : Refusal) → refused k ≡ need 48 b (ok a) → (b ≡ false) × (k ≡ refusal 48)
refused_need true a k e = let z : ◌≡◌ {A = ℕ} 0 1 = cc in absurd (zero_one z)
refused_need false a k e = let z : k ≡ refusal 48 = cc in (refl, z)

module _ {fits : Bool} {text : List ℕ} {most at : ℕ} {before after : List ℕ} where
  pub drawn_so : {q : ℕ} → fits ≡ true → Written before at text q after → q ≤ at + most → DrawnAs fits text most at (ok q) before after
  drawn_so {q} e w h =
      record { told = ap ok w.next ∙ need_met 48 fits (ok (at + length text)) e; laid = λ k. w.is; short = λ k. omega (arith, w.next) }

  pub drawn_no : (k : Refusal) → k ≡ refusal 48 → fits ≡ false → DrawnAs fits text most at (refused k) before after
  drawn_no k e f =
      record { told = ap refused e ∙ need_not 48 fits (ok (at + length text)) f; laid = λ g. absurd (false≢true (sym f ∙ g)); short = λ g. absurd (false≢true (sym f ∙ g)) }

  module _ {r : Answer ℕ} (d : DrawnAs fits text most at r before after) where
    -- the same answer, told otherwise
    pub drawn_same : {x : Answer ℕ} → x ≡ r → DrawnAs fits text most at x before after
    drawn_same e = record { told = e ∙ d.told; laid = d.laid; short = d.short }

    -- a place is answered: all of it stands there
    pub drawn_was : (e : ℕ) → r ≡ ok e → (fits ≡ true) × Written before at text e after × (length text ≤ most)
    drawn_was e h =
        let n = need_inv 48 fits (ok (at + length text)) e (sym h ∙ d.told) in
        (n.0, wrote (ok_inv e (at + length text) n.1) (d.laid n.0), d.short n.0)

    pub drawn_not : (k : Refusal) → r ≡ refused k → (fits ≡ false) × (k ≡ refusal 48)
    drawn_not k h = refused_need fits (at + length text) k (sym h ∙ d.told)

    -- the same of what is equal
    pub drawn_as : (more : ℕ) (fits' : Bool) (text' : List ℕ) → fits ≡ fits' → text ≡ text' → most ≤ more → DrawnAs fits' text' more at r before after
    drawn_as more fits' text' f e l =
        record {
          told = d.told ∙ ap₂ (λ (b : Bool) (t : List ℕ). need 48 b (ok (at + length t))) f e;
          laid = λ g. d.laid (f ∙ g) ∙ ap (over before at) e;
          short = λ g. omega (arith, d.short (f ∙ g), ap length e);
        }

-- ---- a JSON array, element by element: each takes at most `each` bytes with its mark, and P says which can be drawn
-- n elements from place i on are left
pub record Row {A : Type 0} (P : A → Bool) (g : ℕ → A) (text : ℕ → List ℕ) (each : ℕ) (count first from : ℕ) (before : List ℕ) (m n i at : ℕ) (out : List ℕ) : Type 0 where
  pub going : Onward out at (to_come text m n i) before from (to_come text 91 count first)
  pub fits : every P (run g n i) ≡ every P (run g count first)
  pub room : at + n * each ≤ from + count * each
  pub place : i + n ≡ first + count
  pub same : length out ≡ length before

come_one : (text : ℕ → List ℕ) (m n i : ℕ) → 0 < n → to_come text m n i ≡ ((m ∷ []) ++ text i) ++ to_come text 44 (n - 1) (i + 1)
unfolding to_come
come_one text m zero i h = absurd (omega arith)
come_one text m (suc n) i h = let e : suc n - 1 ≡ n = omega arith in rw e

come_end : (text : ℕ → List ℕ) (m n i : ℕ) → n ≤ 0 → to_come text m n i ≡ 93 ∷ []
unfolding to_come
come_end text m zero i h = refl
come_end text m (suc n) i h = absurd (omega arith)

run_none : {A : Type 0} (g : ℕ → A) (n i : ℕ) → n ≤ 0 → run g n i ≡ []
unfolding run
run_none g zero i h = refl
run_none g (suc n) i h = absurd (omega arith)

less_room : (each at q n all : ℕ) → 0 < n → at + n * each ≤ all → q ≤ at + each → q + (n - 1) * each ≤ all
less_room each at q zero all h k l = absurd (omega arith)
less_room each at q (suc n) all h k l = let e : suc n - 1 ≡ n = omega arith in rw e (omega (arith, suc-mul n each))

module _ {A : Type 0} {P : A → Bool} {g : ℕ → A} {text : ℕ → List ℕ} {each : ℕ} {count first from : ℕ} {before : List ℕ} where
  pub row_start : Row P g text each count first from before 91 count first from before
  row_start = record { going = record { laid = refl; ends = refl }; fits = refl; room = omega arith; place = refl; same = refl }

  -- the same number of elements, told otherwise
  pub row_along : {m n n' i at : ℕ} {out : List ℕ} → Row P g text each count first from before m n i at out → n ≡ n' → Row P g text each count first from before m n' i at out
  row_along {m} {i = i} {at = at} {out = out} row e = subst (λ (x : ℕ). Row P g text each count first from before m x i at out) e row

  module _ {m n i at : ℕ} {out : List ℕ} (row : Row P g text each count first from before m n i at out) where
    module _ (h : 0 < n) where
      -- what of the elements that are left can be drawn
      fits_one : P (g i) && every P (run g (n - 1) (i + 1)) ≡ every P (run g count first)
      fits_one = ap (every P) (sym (run_first g n i h)) ∙ row.fits

      -- a mark and an element more
      pub row_step : P (g i) ≡ true → {p : ℕ} {mid : List ℕ} → Written out at (m ∷ []) p mid → {q : ℕ} {after : List ℕ} → Written mid p (text i) q after → length (text i) + 1 ≤ each → Row P g text each count first from before 44 (n - 1) (i + 1) q after
      row_step e {p} {mid} a {q} {after} b l =
          record {
            going = onward_step row.going (a behind b) (come_one text m n i h);
            fits = ap (λ (t : Bool). t && every P (run g (n - 1) (i + 1))) (sym e) ∙ fits_one;
            room = less_room each at q n (from + count * each) h row.room (omega (arith, a.next, b.next));
            place = omega (arith, row.place);
            same = ap length b.is ∙ length_over mid p (text i) ∙ ap length a.is ∙ length_over out at (m ∷ []) ∙ row.same;
          }

      -- the same by what a step answers
      module _ {most p : ℕ} {mid after : List ℕ} {r : Answer ℕ} (d : DrawnAs (P (g i)) (text i) most p r mid after) where
        pub row_on : p ≡ at + 1 → mid ≡ over out at (m ∷ []) → most + 1 ≤ each → (e : ℕ) → r ≡ ok e → Row P g text each count first from before 44 (n - 1) (i + 1) e after
        row_on a b l e f = let w = drawn_was d e f in row_step w.0 (wrote a b) w.1 (omega (arith, w.2))

        pub row_off : (k : Refusal) → r ≡ refused k → (whole : List ℕ) (all : ℕ) (last : List ℕ) → DrawnAs (every P (run g count first)) whole all from (refused k) before last
        row_off k f whole all last =
            let w = drawn_not d k f in
            drawn_no k w.1 (sym fits_one ∙ ap (λ (t : Bool). t && every P (run g (n - 1) (i + 1))) w.0)

    -- the last bracket
    module _ (h : n ≤ 0) {q : ℕ} {after : List ℕ} (f : q ≡ at + 1) (k : after ≡ over out at (93 ∷ [])) where
      pub row_done : Written before from (to_come text 91 count first) q after
      row_done = onward_end row.going (record { next = f ∙ ap (λ (t : List ℕ). at + length t) (sym bracket); is = k ∙ ap (over out at) (sym bracket) })
        where
          bracket : to_come text m n i ≡ 93 ∷ []
          bracket = come_end text m n i h

      pub row_most : q ≤ from + (count * each + 1)
      row_most = omega (arith, row.room, f)

      pub row_drawn : (all : ℕ) → count * each + 1 ≤ all → DrawnAs (every P (run g count first)) (to_come text 91 count first) all from (ok q) before after
      row_drawn all l = drawn_so (sym row.fits ∙ ap (every P) (run_none g n i h)) row_done (omega (arith, row_most))
