-- Every refusal of a question has a number from 1 to 46, by either way through a group's chunks and for any numbers.
-- Assumes nothing.
use Prim.Native.Nat.{ℕ}
use native.Mathlib.Omega.{arith}
use mathlib.Core.Path.{◌≡◌}
use mathlib.Core.Bool.{◌&&◌, ◌||◌}
use mathlib.Core.List.{List, []}
use mathlib.Core.Logic.{◌⊎◌}
use lib.Dec.{leb}
use lib.IntN.{ℤ}
use lib.Ieee.{Float}
use Rattle.basics.specs.Truth.{and_l}
use Rattle.plane.specs.declared.I32Point.{I32Point}
use Rattle.answer.specs.declared.Refusal.{Refusal}
use Rattle.answer.specs.Refusals.{refusal, counted_from}
use Rattle.answer.specs.Answers.{ok}
use Rattle.chunks.specs.Broken.{Broken}
use Rattle.chunks.proofs.Breaking.{told}
use Rattle.opened.specs.declared.Opened.{Opened}
use Rattle.reader_named.specs.Asked.{bounds_at}
use Rattle.reader_cells.specs.Asked.{candidates_of, candidate_at}
use Rattle.reader_chunks.specs.Chunks.{start_of, end_of, span, decode_in}
use Rattle.reader_records.specs.declared.ChunkRecord.{ChunkRecord}
use Rattle.reader_records.specs.Records.{chunk_at}
use Rattle.reader_ways.specs.Ways.{Way}
use Rattle.reader_zones.specs.Zones.{contains_by, contains_at}
use Rattle.reader_lookup.specs.Asking.{lookup_by, lookup_of}
use Rattle.reader_listing.specs.All.{list_by}
use Rattle.tzb_record.specs.Layout.{record_of}
use Rattle.tzb_journal.specs.Journal.{answer_of}
use Rattle.exported.proofs.Tabled.{Numbered, Tabled, numbered}
use Rattle.exported.proofs.Asked as A
use Rattle.exported.proofs.Asked.{Plain}

by_plain : (n : ℕ) → Plain n → Numbered 46 (refusal n)
by_plain n h = numbered 46 n (and_l (leb 1 n && leb n 46) (leb n 37 || leb 44 n) h)

module _ (o : Opened) (s : List ℕ) where
  by_broken : (i : ℕ) (v : ChunkRecord) → ok v ≡ chunk_at o s i → (e : ℕ) → ok e ≡ end_of o s i → (b : List ℕ) → ok b ≡ span s (start_of o v) e → (c : ℕ) → (c ≡ v.count) ⊎ (c ≡ 1) → (r : Refusal) → Broken b 0 c r → Numbered 46 (counted_from (start_of o v) r)
  unfolding counted_from
  by_broken i v f e g b h c w r k = let t = told b 0 c (omega arith) r k in record { least = omega (arith, t.least); greatest = omega (arith, t.greatest) }

pub record_q : (held : List ℕ) → Tabled 46 (record_of held)
record_q held = A.record_q [] (Numbered 46) by_plain held

pub bounds_q : (s : List ℕ) (at n zone : ℕ) → Tabled 46 (bounds_at s at n zone)
bounds_q s at n zone = A.bounds_q s (Numbered 46) by_plain at n zone

module _ (o : Opened) (s : List ℕ) where
  pub candidates_q : (lng lat : Float) → Tabled 46 (candidates_of o s lng lat)
  candidates_q = A.candidates_q s (Numbered 46) by_plain o

  pub candidate_q : (place : ℕ) → Tabled 46 (candidate_at o s place)
  candidate_q = A.candidate_q s (Numbered 46) by_plain o

  pub decode_q : (i : ℕ) (out : List ℤ) → Tabled 46 (decode_in o s i out)
  decode_q = A.decode_q s (Numbered 46) by_plain o (by_broken o s)

  pub contains_by_q : (w : Way) (zone : ℕ) (q : I32Point) → Tabled 46 (contains_by w o s zone q)
  contains_by_q = A.contains_by_q s (Numbered 46) by_plain o (by_broken o s)

  pub lookup_by_q : (w : Way) (lng lat : Float) → Tabled 46 (lookup_by w o s lng lat)
  lookup_by_q = A.lookup_by_q s (Numbered 46) by_plain o (by_broken o s)

  pub list_by_q : (w : Way) (lng lat : Float) (places : ℕ) → Tabled 46 (list_by w o s lng lat places)
  list_by_q = A.list_by_q s (Numbered 46) by_plain o (by_broken o s)

  -- ---- by the plain one
  pub contains_q : (zone : ℕ) (q : I32Point) → Tabled 46 (contains_at o s zone q)
  contains_q = A.contains_q s (Numbered 46) by_plain o (by_broken o s)

  pub lookup_q : (lng lat : Float) → Tabled 46 (lookup_of o s lng lat)
  lookup_q = A.lookup_q s (Numbered 46) by_plain o (by_broken o s)

  -- ---- what an entry is made of
  pub answer_q : (places : ℕ) (q : I32Point) → Tabled 46 (answer_of places o s q)
  answer_q = A.answer_q s (Numbered 46) by_plain o (by_broken o s)
