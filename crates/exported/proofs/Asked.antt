-- What every refusal of a question is, by either way through a group's chunks and for any numbers: one of the table without a place, or one of a chunk that is broken. So whatever holds of all these, P, holds of the refusal of every question.
-- Assumes nothing.
use Prim.Native.Nat.{ℕ, zero, suc, ◌+◌, ◌-◌, ◌*◌, ◌%◌}
use mathlib.Core.Path.{◌≡◌, refl, sym, ap, subst, ◌∙◌}
use mathlib.Core.Logic.{◌⊎◌, inl, inr}
use native.Mathlib.Omega.{arith}
use mathlib.Core.Bool.{Bool, true, false, ◌&&◌, ◌||◌}
use mathlib.Core.List.{List, [], ◌∷◌}
use lib.IntN.{ℤ}
use lib.Dec.{leb, ltb, eqb}
use lib.Ieee.{Float}
use lib.ListN.{length}
use Rattle.plane.specs.declared.Point.{Point}
use Rattle.plane.specs.declared.I32Point.{I32Point}
use Rattle.plane.specs.Domain.{in_domain}
use Rattle.plane.specs.Segment as S
use Rattle.boxes.specs.Box.{contains, relevant, right}
use Rattle.fields.specs.Loads as F
use Rattle.fields.specs.Loads.{load_at}
use Rattle.answer.specs.Checks as C
use Rattle.answer.specs.Checks.{at_most, same}
use Rattle.answer.specs.declared.Refusal.{Refusal}
use Rattle.answer.specs.Refusals.{refusal, counted_from}
use Rattle.answer.specs.Answers.{Answer, ok, refused, behind}
use Rattle.answer.proofs.AnswersLaws.{then_inv}
use Rattle.answer.proofs.RefusalsLaws.{counted_plain}
use Rattle.answer.specs.Walks.{Walk, broken, on, off, add, ◌go◌, ◌yields◌, done, walk_behind}
use Rattle.chunks.specs.Points.{first_of}
use Rattle.chunks.specs.Broken.{Broken}
use Rattle.chunks.proofs.Breaking.{Stopped, first_no, walk_so}
use Rattle.chunks.specs.Scan.{scanner, scan_of}
use Rattle.chunks.specs.Decode.{decoder, points_of}
use Rattle.rays.specs.Ray.{ray_of}
use Rattle.opened.specs.declared.Directory.{Directory}
use Rattle.opened.specs.declared.Grid.{Grid}
use Rattle.opened.specs.declared.Opened.{Opened}
use Rattle.opened.specs.Widths.{list_wide, ring_wide, op_wide, group_wide, chunk_wide}
use Rattle.reader_names.specs.Names.{edge}
use Rattle.reader_named.specs.Asked.{bounds_at, name_at}
use Rattle.reader_cells.specs.Asked.{on_earth, in_grid, cell_candidates, candidates_of, zone_below, candidate_at}
use Rattle.reader_records.specs.declared.ChunkRecord.{ChunkRecord}
use Rattle.reader_records.specs.declared.GroupRecord.{GroupRecord}
use Rattle.reader_records.specs.declared.RingRecord.{RingRecord}
use Rattle.reader_records.specs.Records.{place, record_at, ruled, list_at, ring_at, count_rule, op_at, group_at, chunk_at}
use Rattle.reader_chunks.specs.Chunks.{start_of, end_of, span, bytes_of, first_in, scan_in, decode_by, decode_in}
use Rattle.reader_chunks.proofs.Ranges.{end_next}
use Rattle.reader_groups.specs.Groups.{next_first, skip_to, scan_to, joined_to, pass_at, last_in, last_at, alone_at, chunks_from, group_scan}
use Rattle.reader_ways.specs.Ways.{Way, plain, striped, entry_at, stripe_at, chunk_number_at, numbered, numbered_from, stripe_walk, striped_scan, group_scan_by}
use Rattle.reader_ways.specs.declared.Entry.{Entry}
use Rattle.stripes.specs.Numbers.{group_numbers, stripe_numbers}
use Rattle.reader_rings.specs.declared.Turned.{Turned}
use Rattle.reader_rings.specs.declared.Round.{Round}
use Rattle.reader_rings.specs.Rings.{turned_at, joint_of, group_walk, turn_walk, op_step, ops_from, ring_end, ring_rest, ring_of, ring_contains}
use Rattle.reader_zones.specs.Zones.{poly_of, zone_by, contains_by, contains_at, first_so}
use Rattle.reader_lookup.specs.Asking.{scaled, unlooked, candidate_of, hit_at, or_else, first_hit, lookup_among, lookup_by, lookup_of}
use Rattle.tzb_record.specs.Layout.{record_of}
use Rattle.exported.proofs.Tabled.{Only, OnlyWalk, given, need_o, then_t, then_e, either_way, walked, must_o, past_t, verdict_t, go_t, go_e, yields_t, yields_e, fine_t, and_t, outcome_t, before_t}
use Rattle.plane.specs.Places.{point_of}
use Rattle.replies.specs.Replies.{Chosen, none, all, listed, Sought, nowhere, in_zone}
use Rattle.reader_listing.specs.All.{all_hits, hits_among, hits_of, names_read, placed, list_for, list_by, list_of}
use Rattle.reader_whole.specs.Whole.{whole_hit, whole_hits, whole_list}
use Rattle.entries.specs.Forms.{all_below}
use Rattle.tzb_journal.specs.Journal.{fitting, answer_of}

-- a number of the table, 1 to 46, whose refusal has no place
abbrev pub Plain : ℕ → Type 0
Plain n = (leb 1 n && leb n 46) && (leb n 37 || leb 44 n) ≡ true

module _ (s : List ℕ) (P : Refusal → Type 0) (plainly : (n : ℕ) → Plain n → P (refusal n)) where
  abbrev Q : {A : Type 0} → Answer A → Type 0
  Q x = Only P x

  abbrev W : {A : Type 0} → Walk A → Type 0
  W w = OnlyWalk P w

  pub record_q : (held : List ℕ) → Q (record_of held)
  unfolding record_of
  record_q held = need_o 44 (same (length held) 84) _ (plainly 44 refl) (given _)

  load : (n p : ℕ) → Q (load_at n s p)
  unfolding load_at
  load n p = need_o 44 (F.inside n s p) _ (plainly 44 refl) (given _)

  -- ---- names
  pub bounds_q : (at n zone : ℕ) → Q (bounds_at s at n zone)
  unfolding bounds_at
  bounds_q at n zone =
      need_o 45 (C.below zone n) _ (plainly 45 refl)
      (need_o 44 (at_most (at + 4 + 4 * zone + 8) (length s)) _ (plainly 44 refl)
      (need_o 23 (at_most (edge s at n zone) (edge s at n (zone + 1))) _ (plainly 23 refl)
      (need_o 44 (at_most (edge s at n (zone + 1)) (length s)) _ (plainly 44 refl)
      (given _))))

  -- ---- candidates
  module _ (o : Opened) where
    name_q : (zone : ℕ) → Q (name_at o s zone)
    unfolding name_at
    name_q zone = then_t _ _ (bounds_q _ _ zone) (λ b. given _)

    cell : (g : Grid) (column row : ℤ) → Q (cell_candidates s g column row)
    unfolding cell_candidates
    cell g column row = either_way Q (in_grid g column row) _ _ (then_t _ _ (load 4 _) (λ w. given _)) (given _)

    pub candidates_q : (lng lat : Float) → Q (candidates_of o s lng lat)
    unfolding candidates_of
    candidates_q lng lat = either_way Q (on_earth lng lat) _ _ (either_way Q (same (o.flags % 2) 0) _ _ (given _) (cell o.grid _ _)) (given _)

    below : (zones zone : ℕ) → Q (zone_below zones zone)
    unfolding zone_below
    below zones zone = need_o 31 (C.below zone zones) _ (plainly 31 refl) (given _)

    pub candidate_q : (place : ℕ) → Q (candidate_at o s place)
    unfolding candidate_at
    candidate_q place = need_o 30 (C.below place o.grid.total) _ (plainly 30 refl) (then_t _ _ (load 2 _) (below o.zones.count))

  -- ---- records
  record_at_law : (d : Directory) (w i : ℕ) → Q (record_at s d w i)
  unfolding record_at
  record_at_law d w i = need_o 34 (ltb i d.count) _ (plainly 34 refl) (need_o 44 (F.inside w s (place d w i)) _ (plainly 44 refl) (given _))

  ruled_34 : {A : Type 0} (at : Answer ℕ) (read : ℕ → A) (rule : A → Bool) → Q at → Q (ruled at read rule 34)
  unfolding ruled
  ruled_34 at read rule h = then_t _ _ h (λ p. need_o 34 (rule (read p)) _ (plainly 34 refl) (given _))

  ruled_35 : {A : Type 0} (at : Answer ℕ) (read : ℕ → A) (rule : A → Bool) → Q at → Q (ruled at read rule 35)
  unfolding ruled
  ruled_35 at read rule h = then_t _ _ h (λ p. need_o 35 (rule (read p)) _ (plainly 35 refl) (given _))

  list : (d : Directory) (below i : ℕ) → Q (list_at s d below i)
  unfolding list_at
  list d below i = ruled_34 _ _ _ (record_at_law d list_wide i)

  module _ (o : Opened) (i : ℕ) where
    ring : Q (ring_at o s i)
    unfolding ring_at
    ring = ruled_34 _ _ _ (record_at_law o.rings ring_wide i)

    op : Q (op_at o s i)
    unfolding op_at
    op = ruled_35 _ _ _ (record_at_law o.ops op_wide i)

    pub group : Q (group_at o s i)
    unfolding group_at
    group = ruled_34 _ _ _ (record_at_law o.groups group_wide i)

    pub chunk : Q (chunk_at o s i)
    unfolding chunk_at
    chunk = ruled_34 _ _ _ (record_at_law o.chunks chunk_wide i)

  -- ---- chunks
  span_q : (a e : ℕ) → Q (span s a e)
  unfolding span
  span_q a e = need_o 37 (ltb a e) _ (plainly 37 refl) (need_o 44 (leb e (length s)) _ (plainly 44 refl) (given _))

  -- of a chunk's own bytes: the places count from its first
  abbrev Own : ℕ → Refusal → Type 0
  Own a r = P (counted_from a r)

  lifted : {A : Type 0} (a : ℕ) (x : Answer A) → Only (Own a) x → Q (behind a x)
  lifted a (ok v) h = given v
  lifted a (refused r) h = record { by = h.by }

  lifted_walk : {A : Type 0} (a : ℕ) (w : Walk A) → OnlyWalk (Own a) w → W (walk_behind a w)
  lifted_walk a (broken r) h = record { by = h.by }
  lifted_walk a on h = record { by = tt }
  lifted_walk a (off b x) h = record { by = tt }

  module _
      (o : Opened)
      (breaks : (i : ℕ) (v : ChunkRecord) → ok v ≡ chunk_at o s i → (e : ℕ) → ok e ≡ end_of o s i → (b : List ℕ) → ok b ≡ span s (start_of o v) e → (c : ℕ) → (c ≡ v.count) ⊎ (c ≡ 1) → (r : Refusal) → Broken b 0 c r → P (counted_from (start_of o v) r))
    where
      end_q : (i : ℕ) → Q (end_of o s i)
      unfolding end_of
      end_q i = either_way Q (ltb (i + 1) o.chunks.count) _ _ (then_t _ _ (chunk o (i + 1)) (λ v. given _)) (given _)

      -- chunk i, with record v, which ends at e
      module _ (i : ℕ) (v : ChunkRecord) (f : ok v ≡ chunk_at o s i) (e : ℕ) (g : ok e ≡ end_of o s i) where
        module _ (b : List ℕ) (h : ok b ≡ span s (start_of o v) e) where
          stopped : (r : Refusal) → Stopped b 0 v.count r → Own (start_of o v) r
          stopped r (inl k) = subst P (counted_plain (start_of o v) 32 ∙ ap (counted_from (start_of o v)) (sym k)) (plainly 32 refl)
          stopped r (inr k) = breaks i v f e g b h v.count (inl refl) r k

          alone_q : Q (behind (start_of o v) (first_of b))
          alone_q = lifted (start_of o v) (first_of b) (own (first_of b) refl)
            where
              own : (x : Answer (I32Point × ℕ)) → x ≡ first_of b → Only (Own (start_of o v)) x
              own (ok t) k = given t
              own (refused r) k = record { by = breaks i v f e g b h 1 (inr refl) r (first_no b 0 1 (omega arith) r k) }

          points_q : Q (behind (start_of o v) (points_of b v.count))
          unfolding points_of
          points_q = lifted (start_of o v) _ (walk_so b 0 v.count (λ (x : Answer (List I32Point)). Only (Own (start_of o v)) x) decoder (λ r k. record { by = stopped r k }) (λ q. given _) (λ q x k. then_t _ _ k (λ l. given _)) (λ q t x k. k))

          scan_q : (p : Point) → W (walk_behind (start_of o v) (scan_of b v.count p))
          unfolding scan_of
          scan_q p = lifted_walk (start_of o v) _ (walk_so b 0 v.count (λ (x : Walk I32Point). OnlyWalk (Own (start_of o v)) x) (scanner p) (λ r k. record { by = stopped r k }) (λ q. walked _ _) (λ q x k. k) (λ q t x k. go_t _ _ (past_t (ray_of q t p) t) (λ u. k)))

        first_in_law : Q (first_in s (start_of o v) e)
        unfolding first_in
        first_in_law = then_e _ _ (span_q _ e) (λ b h. then_t _ _ (alone_q b h) (λ t. given _))

        scan_in_law : (p : Point) → W (scan_in s v.count p (start_of o v) e)
        unfolding scan_in
        scan_in_law p = yields_e _ _ (span_q _ e) (λ b h. scan_q b h p)

      bytes : (i : ℕ) (v : ChunkRecord) → Q (bytes_of o s i v)
      unfolding bytes_of
      bytes i v = then_t _ _ (end_q i) (λ e. span_q _ e)

      pub decode_q : (i : ℕ) (out : List ℤ) → Q (decode_in o s i out)
      unfolding decode_in decode_by bytes_of
      decode_q i out =
          then_e _ _ (chunk o i) (λ v f.
          need_o 32 (ltb 0 v.count) _ (plainly 32 refl)
          (need_o 46 (leb (2 * v.count) (length out)) _ (plainly 46 refl)
          (then_e _ _ (bytes i v) (λ b h. let g = then_inv (end_of o s i) (λ e. span s (start_of o v) e) b h in points_q i v f g.0 g.1 b g.2))))

      -- ---- groups
      next_first_law : (i : ℕ) (n : ChunkRecord) → ok n ≡ chunk_at o s (i + 1) → Q (next_first o s i n)
      unfolding next_first
      next_first_law i n f = then_e _ _ (end_q (i + 1)) (λ e g. first_in_law (i + 1) n f e g)

      module _ (p : Point) where
        module _ (i : ℕ) (v : ChunkRecord) (f : ok v ≡ chunk_at o s i) where
          module _ (n : ChunkRecord) (g : ok n ≡ chunk_at o s (i + 1)) where
            skip : W (skip_to o s p i v n)
            unfolding skip_to
            skip = yields_t _ _ (first_in_law i v f (start_of o n) (end_next o s i n g)) (λ a. yields_t _ _ (next_first_law i n g) (λ b. walked _ _))

            scan_to_law : W (scan_to o s p i v n)
            unfolding scan_to
            scan_to_law = go_t _ _ (scan_in_law i v f (start_of o n) (end_next o s i n g) p) (λ q. yields_t _ _ (next_first_law i n g) (λ b. past_t (ray_of q b p) tt))

            joined : W (joined_to o s p i v n)
            unfolding joined_to
            joined = either_way W (relevant v.bbox p) _ _ (either_way W (right v.bbox p) _ _ skip scan_to_law) (walked _ _)

          pass : W (pass_at o s p i v)
          unfolding pass_at
          pass = yields_e _ _ (chunk o (i + 1)) (λ n g. go_t _ _ (joined n g) (λ t. walked _ _))

          -- what is handed on is the next chunk's record
          pass_gives : (b : Bool) (n : ChunkRecord) → off b n ≡ pass_at o s p i v → ok n ≡ chunk_at o s (i + 1)
          unfolding pass_at add
          pass_gives b n h = by_record (chunk_at o s (i + 1)) h
            where
              apart : (r : Refusal) → off b n ≡ broken r → ⊥
              apart r e = let z : ◌≡◌ {A = ℕ} 0 1 = cc in omega (arith, z)

              not_on : off b n ≡ on → ⊥
              not_on e = let z : ◌≡◌ {A = ℕ} 0 1 = cc in omega (arith, z)

              same : (c : Bool) (m : ChunkRecord) → off b n ≡ off c m → n ≡ m
              same c m e = cc

              by_walk : (m : ChunkRecord) (w : Walk (Unit {0})) → off b n ≡ (w go λ t. done m) → n ≡ m
              by_walk m (broken r) e = absurd (apart r e)
              by_walk m on e = absurd (not_on e)
              by_walk m (off c t) e = same _ m e

              by_record : (x : Answer ChunkRecord) → off b n ≡ (x yields λ m. joined_to o s p i v m go λ t. done m) → ok n ≡ x
              by_record (ok m) e = ap ok (by_walk m (joined_to o s p i v m) e)
              by_record (refused r) e = absurd (apart r e)

          last_in_law : (x : I32Point) (e : ℕ) → ok e ≡ end_of o s i → W (last_in o s p i v x e)
          unfolding last_in
          last_in_law x e g = either_way W (right v.bbox p) _ _ (yields_t _ _ (first_in_law i v f e g) (λ a. walked _ _)) (go_t _ _ (scan_in_law i v f e g p) (λ q. walked _ _))

          last : (x : I32Point) → W (last_at o s p i v x)
          unfolding last_at
          last x = either_way W (relevant v.bbox p) _ _ (yields_e _ _ (end_q i) (λ e g. last_in_law x e g)) (walked _ _)

        chunks_from_law : (x : I32Point) (n i : ℕ) (v : ChunkRecord) → ok v ≡ chunk_at o s i → W (chunks_from o s p x n i v)
        unfolding chunks_from
        chunks_from_law x zero i v f = last i v f x
        chunks_from_law x (suc n) i v f = go_e _ _ (pass i v f) (λ b w g. chunks_from_law x n (i + 1) w (pass_gives i v f b w g))

        group_of : (g : GroupRecord) → W (group_scan o s p g)
        unfolding group_scan
        group_of g = yields_e _ _ (chunk o g.first) (λ v f. chunks_from_law g.exit _ g.first v f)

        -- ---- groups by stripes
        alone : (x : I32Point) (follows : Bool) (i : ℕ) → W (alone_at o s p x follows i)
        unfolding alone_at
        alone x follows i =
            yields_e _ _ (chunk o i) (λ v f.
            either_way W (relevant v.bbox p) _ _ (either_way W follows _ _ (go_t _ _ (pass i v f) (λ n. walked _ _)) (last i v f x)) (walked _ _))

        numbered_q : (g : GroupRecord) (c : ℕ) → W (numbered o s p g c)
        unfolding numbered
        numbered_q g c = must_o 34 (ltb c g.count) _ (plainly 34 refl) (alone g.exit _ _)

        module _ (numbers : List ℕ) where
          entry_q : (i : ℕ) → Q (entry_at numbers i)
          unfolding entry_at
          entry_q i = need_o 44 (leb (group_numbers * i + group_numbers) (length numbers)) _ (plainly 44 refl) (given _)

          stripe_q : (first stripe : ℕ) → Q (stripe_at numbers first stripe)
          unfolding stripe_at
          stripe_q first stripe = need_o 44 (leb (first + stripe_numbers * stripe + stripe_numbers) (length numbers)) _ (plainly 44 refl) (given _)

          chunk_number : (at : ℕ) → Q (chunk_number_at numbers at)
          unfolding chunk_number_at
          chunk_number at = need_o 44 (leb (at + 1) (length numbers)) _ (plainly 44 refl) (given _)

          numbered_from_law : (g : GroupRecord) (n at : ℕ) → W (numbered_from o s p g numbers n at)
          unfolding numbered_from
          numbered_from_law g zero at = walked _ _
          numbered_from_law g (suc n) at = yields_t _ _ (chunk_number at) (λ c. go_t _ _ (numbered_q g c) (λ u. numbered_from_law g n (at + 1)))

          stripe_walk_law : (g : GroupRecord) (e : Entry) → W (stripe_walk o s p g numbers e)
          unfolding stripe_walk
          stripe_walk_law g e = must_o 34 (ltb 0 e.striping.height) _ (plainly 34 refl) (yields_t _ _ (stripe_q e.first _) (λ t. numbered_from_law g t.count t.first))

          striped_scan_law : (i : ℕ) (g : GroupRecord) → W (striped_scan numbers o s p i g)
          unfolding striped_scan
          striped_scan_law i g = yields_t _ _ (entry_q i) (λ e. either_way W (eqb e.striping.k 0) _ _ (group_of g) (stripe_walk_law g e))

        scans : (w : Way) (i : ℕ) (g : GroupRecord) → W (group_scan_by w o s p i g)
        unfolding group_scan_by
        scans plain i g = group_of g
        scans (striped numbers) i g = striped_scan_law numbers i g

        -- ---- rings: what no way changes
        joint : (a b : I32Point) → W (joint_of p a b)
        unfolding joint_of
        joint a b = either_way W (S.same_point a b) _ _ (walked _ _) (past_t (ray_of a b p) tt)

        ring_end_law : (r : RingRecord) (start : I32Point) (z : Round) → W (ring_end p r start z)
        unfolding ring_end
        ring_end_law r start z = must_o 36 (count_rule r z.sum) _ (plainly 36 refl) (joint z.exit start)

      turned : (i : ℕ) → Q (turned_at o s i)
      unfolding turned_at
      turned i = then_t _ _ (op o i) (λ w. then_t _ _ (group o _) (λ g. given _))

      -- ---- zones and lookups: the same
      sought : (f : ℕ → Answer Bool) (found other : Bool) → ((i : ℕ) → Q (f i)) → (n i : ℕ) → Q (first_so f found other n i)
      unfolding first_so
      sought f found other h zero i = given _
      sought f found other h (suc n) i = then_t _ _ (h i) (λ b. either_way Q b _ _ (given _) (sought f found other h n (i + 1)))

      candidate_of_law : (grid : Bool) (place : ℕ) → Q (candidate_of o s grid place)
      unfolding candidate_of
      candidate_of_law grid place = either_way Q grid _ _ (candidate_q o place) (given _)

      or_else_law : (z : Sought) (x : Answer Sought) → Q x → Q (or_else z x)
      or_else_law nowhere x h = h
      or_else_law (in_zone zone) x h = given _

      first_hit_law : (f : ℕ → Answer Sought) → ((i : ℕ) → Q (f i)) → (n i : ℕ) → Q (first_hit f n i)
      unfolding first_hit
      first_hit_law f h zero i = given _
      first_hit_law f h (suc n) i = then_t _ _ (h i) (λ z. or_else_law z _ (first_hit_law f h n (i + 1)))

      all_hits_law : (f : ℕ → Answer Sought) → ((i : ℕ) → Q (f i)) → (n i : ℕ) → Q (all_hits f n i)
      unfolding all_hits
      all_hits_law f h zero i = given _
      all_hits_law f h (suc n) i = then_t _ _ (h i) (λ z. then_t _ _ (all_hits_law f h n (i + 1)) (λ l. given _))

      names_read_law : (l : List ℕ) → Q (names_read o s l)
      unfolding names_read
      names_read_law [] = fine_t
      names_read_law (zone ∷ l) = and_t _ _ (outcome_t _ (name_q o zone)) (names_read_law l)

      list_for_law : (places : ℕ) (l : List ℕ) → Q (list_for o s places l)
      unfolding list_for placed
      list_for_law places l = before_t _ _ (names_read_law l) (need_o 46 (at_most (length l) places) _ (plainly 46 refl) (given _))

      -- ---- by either way
      module _ (w : Way) where
        module _ (p : Point) where
          group_walk_law : (i : ℕ) (g : GroupRecord) → W (group_walk w o s p i g)
          unfolding group_walk
          group_walk_law i g = either_way W (relevant g.bbox p) _ _ (either_way W (right g.bbox p) _ _ (walked _ _) (scans p w i g)) (walked _ _)

          turn : (a : I32Point) (t : Turned) → W (turn_walk w o s p a t)
          unfolding turn_walk
          turn a t = go_t _ _ (joint p a t.entry) (λ u. group_walk_law t.index t.group)

          op_step_law : (i : ℕ) (z : Round) → W (op_step w o s p i z)
          unfolding op_step
          op_step_law i z = yields_t _ _ (turned i) (λ t. go_t _ _ (turn z.exit t) (λ u. walked _ _))

          ops : (n i : ℕ) (z : Round) → W (ops_from w o s p n i z)
          unfolding ops_from
          ops zero i z = walked _ _
          ops (suc n) i z = go_t _ _ (op_step_law i z) (λ y. ops n (i + 1) y)

          ring_rest_law : (r : RingRecord) (t : Turned) → W (ring_rest w o s p r t)
          unfolding ring_rest
          ring_rest_law r t = go_t _ _ (ops _ _ _) (λ z. ring_end_law p r t.entry z)

          ring_of_law : (r : RingRecord) → W (ring_of w o s p r)
          unfolding ring_of
          ring_of_law r = yields_t _ _ (turned r.first) (λ t. go_t _ _ (group_walk_law t.index t.group) (λ u. ring_rest_law r t))

          ring_contains_law : (edge : Bool) (i : ℕ) → Q (ring_contains w o s p edge i)
          unfolding ring_contains
          ring_contains_law edge i = then_t _ _ (ring o i) (λ r. either_way Q (contains r.bbox p) _ _ (verdict_t edge _ (ring_of_law r)) (given _))

          -- ---- zones
          poly : (i : ℕ) → Q (poly_of w o s p i)
          unfolding poly_of
          poly i =
              then_t _ _ (list o.polys _ i) (λ q.
              either_way Q (contains q.bbox p) _ _
              (then_t _ _ (ring_contains_law true q.first) (λ b. either_way Q b _ _ (sought (ring_contains w o s p false) false true (ring_contains_law false) (q.count - 1) (q.first + 1)) (given _)))
              (given _))

          zone_q : (i : ℕ) → Q (zone_by w o s p i)
          unfolding zone_by
          zone_q i = then_t _ _ (list o.zones _ i) (λ z. either_way Q (contains z.bbox p) _ _ (sought (poly_of w o s p) true false poly z.count z.first) (given _))

        pub contains_by_q : (zone : ℕ) (q : I32Point) → Q (contains_by w o s zone q)
        unfolding contains_by
        contains_by_q zone q = need_o 45 (ltb zone o.zones.count) _ (plainly 45 refl) (either_way Q (in_domain q) _ _ (zone_q (point_of q) zone) (given _))

        -- ---- lookups
        hit : (p : Point) (grid : Bool) (place : ℕ) → Q (hit_at w o s p grid place)
        unfolding hit_at
        hit p grid place = then_t _ _ (candidate_of_law grid place) (λ zone. then_t _ _ (zone_q p zone) (λ b. given _))

        among : (lng lat : Float) (c : Chosen) → Q (lookup_among w o s lng lat c)
        unfolding lookup_among
        among lng lat none = given _
        among lng lat (all n) = first_hit_law _ (hit (scaled lng lat) false) n 0
        among lng lat (listed n place) = either_way Q (unlooked o n lng lat) _ _ (then_t _ _ (candidate_q o place) (λ zone. given _)) (first_hit_law _ (hit (scaled lng lat) true) n place)

        pub lookup_by_q : (lng lat : Float) → Q (lookup_by w o s lng lat)
        unfolding lookup_by
        lookup_by_q lng lat = then_t _ _ (candidates_q o lng lat) (among lng lat)

        hits_among_law : (p : Point) (c : Chosen) → Q (hits_among w o s p c)
        unfolding hits_among
        hits_among_law p none = given _
        hits_among_law p (all n) = all_hits_law _ (hit p false) n 0
        hits_among_law p (listed n place) = all_hits_law _ (hit p true) n place

        hits : (lng lat : Float) → Q (hits_of w o s lng lat)
        unfolding hits_of
        hits lng lat = then_t _ _ (candidates_q o lng lat) (hits_among_law _)

        pub list_by_q : (lng lat : Float) (places : ℕ) → Q (list_by w o s lng lat places)
        unfolding list_by
        list_by_q lng lat places = then_t _ _ (hits lng lat) (list_for_law places)

      -- ---- by the plain one
      pub contains_q : (zone : ℕ) (q : I32Point) → Q (contains_at o s zone q)
      contains_q = contains_by_q plain

      pub lookup_q : (lng lat : Float) → Q (lookup_of o s lng lat)
      lookup_q = lookup_by_q plain

      -- ---- the whole-number list, and what an entry is made of
      whole_hit_law : (q : I32Point) (zone : ℕ) → Q (whole_hit o s q zone)
      unfolding whole_hit
      whole_hit_law q zone = then_t _ _ (contains_q zone q) (λ b. given _)

      whole_hits_law : (q : I32Point) → Q (whole_hits o s q)
      unfolding whole_hits
      whole_hits_law q = all_hits_law _ (whole_hit_law q) o.zones.count 0

      pub whole_q : (q : I32Point) (places : ℕ) → Q (whole_list o s q places)
      unfolding whole_list
      whole_q q places = then_t _ _ (whole_hits_law q) (list_for_law places)

      fitting_q : (l : List ℕ) → Q (fitting l)
      unfolding fitting
      fitting_q l = need_o 45 (all_below l) _ (plainly 45 refl) (given _)

      pub answer_q : (places : ℕ) (q : I32Point) → Q (answer_of places o s q)
      unfolding answer_of
      answer_q places q = then_t _ _ (whole_q q places) fitting_q
