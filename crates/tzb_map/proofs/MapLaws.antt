-- Laws of specs/Map, as proofs cite them. Nothing here need be believed.
-- Assumes nothing.
use Prim.Native.Nat.{ℕ, ◌<◌}
use mathlib.Core.Path.{◌≡◌, refl, sym, ap, ◌∙◌}
use mathlib.Core.List.{List}
use lib.ListN.{length}
use Rattle.answer.specs.declared.Refusal.{Refusal}
use Rattle.answer.specs.Refusals.{refusal}
use Rattle.answer.specs.Answers.{Answer, ok, refused, ◌then◌, how_many, left}
use Rattle.answer.proofs.AnswersLaws.{then_ok, then_inv, zero_one}
use Rattle.std.specs.declared.result.Result.TheVariants.{Err}
use Rattle.replies.specs.declared.Fault.{Fault}
use Rattle.replies.specs.Replies.{Outcome, accepted, refused_by, broken_at, Drawn, drawn, undrawn, unsound}
use Rattle.opened.specs.declared.Opened.{Opened}
use Rattle.reader_check.specs.FullCheck.{lowest_broken}
use Rattle.reader_outline.specs.Told.{Ready}
use Rattle.reader_map.specs.Map.{zone_text, in_room}
use Rattle.tzb.specs.Opening.{open_of}
use Rattle.tzb.specs.FullCheck.{full_check_of}
use Rattle.tzb.proofs.FullCheckLaws.{full_refused, full_accepted, full_broken}
use Rattle.demands.proofs.Accepted.{accepted_with}
use Rattle.demands.proofs.Rules.{accepted_sound, accepted_covered}
use Rattle.tzb_map.specs.Map.{upheld, map_of, map_in, how_long, as_answer, accepted_of}

-- ---- an answer on a file that the full check accepts
long_is : (x : Answer (List ℕ)) → upheld accepted (how_many x) ≡ how_long (upheld accepted x)
long_is (ok t) = refl
long_is (refused k) = refl

answer_is : {A : Type 0} (x : Answer A) → as_answer (upheld accepted x) ≡ x
answer_is (ok a) = refl
answer_is (refused k) = refl

-- ---- what is asked of a file once the full check has accepted it
abbrev asked : {A : Type 0} → List ℕ → (Opened → Answer A) → Drawn A
asked file ask = upheld (full_check_of file) (open_of file then ask)

asked_is : (file : List ℕ) {A : Type 0} (ask : Opened → Answer A) (o : Opened) → ok o ≡ open_of file → accepted ≡ full_check_of file → upheld accepted (ask o) ≡ asked file ask
asked_is file ask o e f = ap (upheld accepted) (then_ok (open_of file) ask o e) ∙ ap (λ (x : Outcome). upheld x (open_of file then ask)) f

-- what was drawn is an answer on such a file
upheld_inv : {A : Type 0} (x : Outcome) (y : Answer A) (a : A) → drawn a ≡ upheld x y → (x ≡ accepted) × (ok a ≡ y)
upheld_inv accepted (ok b) a e = let z : a ≡ b = cc in (refl, ap ok z)
upheld_inv accepted (refused k) a e = let z : ◌≡◌ {A = ℕ} 0 1 = cc in absurd (zero_one z)
upheld_inv (refused_by k) y a e = let z : ◌≡◌ {A = ℕ} 0 1 = cc in absurd (zero_one z)
upheld_inv (broken_at k rule) y a e = let z : ◌≡◌ {A = ℕ} 0 1 = cc in absurd (zero_one z)

asked_inv : (file : List ℕ) {A : Type 0} (ask : Opened → Answer A) (a : A) → drawn a ≡ asked file ask → (o : Opened) × (ok o ≡ open_of file) × (full_check_of file ≡ accepted) × (ok a ≡ ask o)
asked_inv file ask a e =
    let u = upheld_inv (full_check_of file) (open_of file then ask) a e in
    let t = then_inv (open_of file) ask a u.1 in
    (t.0, t.1, u.0, t.2)

-- ---- what the full check or opening finds stands whatever is asked
fault_stands : {A B : Type 0} (x : Outcome) (y : Answer A) (ask : A → Answer B) (e : Fault) → ◌≡◌ {A = Drawn A} (Err e) (upheld x y) → ◌≡◌ {A = Drawn B} (Err e) (upheld x (y then ask))
fault_stands accepted (ok a) ask e h = let z : ◌≡◌ {A = ℕ} 0 1 = cc in absurd (zero_one z)
fault_stands accepted (refused k) ask e h = cc
fault_stands (refused_by k) y ask e h = cc
fault_stands (broken_at k rule) y ask e h = cc

module _ (d : Drawn (List ℕ)) (e : Fault) where
  long_fault : ◌≡◌ {A = Drawn (List ℕ)} (Err e) d → ◌≡◌ {A = Drawn ℕ} (Err e) (how_long d)
  long_fault h = go d h
    where
      go : (d : Drawn (List ℕ)) → ◌≡◌ {A = Drawn (List ℕ)} (Err e) d → ◌≡◌ {A = Drawn ℕ} (Err e) (how_long d)
      go (drawn t) h = let z : ◌≡◌ {A = ℕ} 0 1 = cc in absurd (zero_one z)
      go (undrawn k) h = cc
      go (unsound k rule) h = cc

  left_fault : ◌≡◌ {A = Drawn (List ℕ)} (Err e) d → (memory : List ℕ) → memory ≡ left memory (as_answer d)
  left_fault h memory = go d h
    where
      go : (d : Drawn (List ℕ)) → ◌≡◌ {A = Drawn (List ℕ)} (Err e) d → memory ≡ left memory (as_answer d)
      go (drawn t) h = let z : ◌≡◌ {A = ℕ} 0 1 = cc in absurd (zero_one z)
      go (undrawn k) h = refl
      go (unsound k rule) h = refl

-- ---- the file opened, where the full check accepts it
module _ (file : List ℕ) where
  pub accepted_barred : (k : Refusal) → refused k ≡ open_of file → undrawn k ≡ accepted_of file
  unfolding accepted_of
  accepted_barred k e = ap (λ (x : Outcome). upheld x (open_of file)) (full_refused file k e)

  module _ (o : Opened) (e : ok o ≡ open_of file) (n : ℕ) (h : n ≡ lowest_broken o file) where
    pub accepted_is : n ≡ 0 → drawn o ≡ accepted_of file
    unfolding accepted_of
    accepted_is z = ap (upheld accepted) e ∙ ap (λ (x : Outcome). upheld x (open_of file)) (full_accepted file o e n h z)

    pub accepted_broken : 0 < n → (k : Refusal) → k ≡ refusal 47 → unsound k n ≡ accepted_of file
    unfolding accepted_of
    accepted_broken l k f = ap (λ (x : Outcome). upheld x (open_of file)) (full_broken file o e n h l k f)

  accepted_inv : (o : Opened) → drawn o ≡ accepted_of file → (full_check_of file ≡ accepted) × (ok o ≡ open_of file)
  unfolding accepted_of
  accepted_inv o e = upheld_inv (full_check_of file) (open_of file) o e

  -- what is drawn of, the full check has accepted
  pub is_ready : (o : Opened) → drawn o ≡ accepted_of file → Ready o file
  is_ready o e =
      let u = accepted_inv o e in
      let a = accepted_with file u.0 o u.1 in
      record { sound = accepted_sound file o a; covered = accepted_covered file o a }

module _ (file : List ℕ) (zone : ℕ) where
  pub map_is : (o : Opened) → ok o ≡ open_of file → accepted ≡ full_check_of file → upheld accepted (zone_text o file zone) ≡ map_of file zone
  unfolding map_of
  map_is o e f = asked_is file (λ o. zone_text o file zone) o e f

  pub map_inv : (t : List ℕ) → drawn t ≡ map_of file zone → (o : Opened) × (ok o ≡ open_of file) × (full_check_of file ≡ accepted) × (ok t ≡ zone_text o file zone)
  unfolding map_of
  map_inv t e = asked_inv file (λ o. zone_text o file zone) t e

  -- ---- how long the text is
  pub length_fault : (e : Fault) → ◌≡◌ {A = Drawn Opened} (Err e) (accepted_of file) → ◌≡◌ {A = Drawn ℕ} (Err e) (how_long (map_of file zone))
  unfolding map_of accepted_of
  length_fault e h = long_fault (map_of file zone) e (fault_stands (full_check_of file) (open_of file) (λ o. zone_text o file zone) e h)

  module _ (o : Opened) (a : drawn o ≡ accepted_of file) where
    long : upheld accepted (how_many (zone_text o file zone)) ≡ how_long (map_of file zone)
    long = let u = accepted_inv file o a in long_is (zone_text o file zone) ∙ ap how_long (map_is o u.1 (sym u.0))

    pub length_none : (k : Refusal) → refused k ≡ how_many (zone_text o file zone) → undrawn k ≡ how_long (map_of file zone)
    length_none k f = ap (upheld accepted) f ∙ long

    pub length_is : (m : ℕ) → ok m ≡ how_many (zone_text o file zone) → drawn m ≡ how_long (map_of file zone)
    length_is m f = ap (upheld accepted) f ∙ long

  -- ---- the text in lent memory
  module _ (room : ℕ) where
    pub in_is : (o : Opened) → ok o ≡ open_of file → accepted ≡ full_check_of file → upheld accepted (in_room room (zone_text o file zone)) ≡ map_in file zone room
    unfolding map_in
    in_is o e f = asked_is file (λ o. in_room room (zone_text o file zone)) o e f

    pub in_inv : (t : List ℕ) → drawn t ≡ map_in file zone room → (o : Opened) × (ok o ≡ open_of file) × (full_check_of file ≡ accepted) × (ok t ≡ in_room room (zone_text o file zone))
    unfolding map_in
    in_inv t e = asked_inv file (λ o. in_room room (zone_text o file zone)) t e

    in_fault : (e : Fault) → ◌≡◌ {A = Drawn Opened} (Err e) (accepted_of file) → ◌≡◌ {A = Drawn (List ℕ)} (Err e) (map_in file zone room)
    unfolding map_in accepted_of
    in_fault e h = fault_stands (full_check_of file) (open_of file) (λ o. in_room room (zone_text o file zone)) e h

  -- what is told, and what the memory then holds
  abbrev pub Told : List ℕ → Drawn ℕ → List ℕ → Type 0
  Told memory d after = (d ≡ how_long (map_in file zone (length memory))) × (after ≡ left memory (as_answer (map_in file zone (length memory))))

  module _ (memory : List ℕ) where
    -- a refusal of the full check
    pub map_fault : (e : Fault) → ◌≡◌ {A = Drawn Opened} (Err e) (accepted_of file) → Told memory (Err e) memory
    map_fault e h =
        let d = in_fault (length memory) e h in
        (long_fault (map_in file zone (length memory)) e d, left_fault (map_in file zone (length memory)) e d memory)

    module _ (o : Opened) (a : drawn o ≡ accepted_of file) (after : List ℕ) (g : after ≡ left memory (in_room (length memory) (zone_text o file zone))) where
      abbrev text : Answer (List ℕ)
      text = in_room (length memory) (zone_text o file zone)

      drawn_is : upheld accepted text ≡ map_in file zone (length memory)
      drawn_is = let u = accepted_inv file o a in in_is (length memory) o u.1 (sym u.0)

      told : (x : Answer ℕ) → x ≡ how_many text → Told memory (upheld accepted x) after
      told x f = (
        ap (upheld accepted) f ∙ long_is text ∙ ap how_long drawn_is,
        g ∙ ap (left memory) (sym (answer_is text)) ∙ ap (λ (d : Drawn (List ℕ)). left memory (as_answer d)) drawn_is,
      )

      pub map_none : (k : Refusal) → refused k ≡ how_many text → Told memory (undrawn k) after
      map_none k f = told (refused k) f

      pub map_drawn : (m : ℕ) → ok m ≡ how_many text → Told memory (drawn m) after
      map_drawn m f = told (ok m) f
