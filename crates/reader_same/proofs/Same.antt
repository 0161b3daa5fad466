-- The stripes change no answer (specs/Same), of every record, every file and all numbers.
-- Assumes nothing.
use Prim.Native.Nat.{ℕ}
use mathlib.Core.Path.{◌≡◌, sym, ◌∙◌}
use mathlib.Core.List.{List, ◌++◌}
use lib.Seq.{take-append_seam}
use Rattle.answer.specs.Answers.{ok}
use Rattle.opened.specs.declared.Opened.{Opened}
use Rattle.reader_stripes.specs.Building.{stripes_of}
use Rattle.reader_ways.specs.Ways.{plain, striped}
use Rattle.reader_ways.proofs.WaysLaws.{by_plain, by_stripes}
use Rattle.reader_same.specs.Same.{Built, Same}
use Rattle.reader_same.proofs.Groups.{group_same}
use Rattle.reader_same.proofs.Alike.{Alike, zone_alike, contains_alike, lookup_alike, list_alike}

-- behind the numbers may lie whatever was there
pub built_before : (o : Opened) (s : List ℕ) (room : ℕ) (numbers behind : List ℕ) → ok numbers ≡ stripes_of o s room → Built o s (numbers ++ behind)
built_before o s room numbers behind e = record { room = room; numbers = numbers; built = e; kept = take-append_seam numbers behind }

module _ (o : Opened) (s lent : List ℕ) (b : Built o s lent) where
  alike : Alike (striped lent) plain o s
  alike p i g e = by_stripes o s p i g lent ∙ group_same o s lent b i g e p ∙ sym (by_plain o s p i g)

  pub same : Same o s lent
  same =
      record {
        zone = zone_alike (striped lent) plain o s alike;
        contains = contains_alike (striped lent) plain o s alike;
        lookup = lookup_alike (striped lent) plain o s alike;
        lookup_into = list_alike (striped lent) plain o s alike;
      }
