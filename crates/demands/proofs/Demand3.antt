-- Demand 3 (specs/Demand3), of every file.
-- Assumes nothing.
use Prim.Native.Nat.{ℕ, ◌<◌}
use mathlib.Core.Path.{◌≡◌}
use mathlib.Core.List.{List}
use Rattle.plane.specs.declared.I32Point.{I32Point}
use Rattle.plane.specs.Segment.{seg}
use Rattle.answer.specs.Answers.{ok}
use Rattle.shapes.specs.Shapes.{zone_in}
use Rattle.opened.specs.declared.Opened.{Opened}
use Rattle.reader_zones.specs.Zones.{contains_at}
use Rattle.directories.specs.Directories.{directories}
use Rattle.reader_exact.proofs.Exact.{contains_exact}
use Rattle.tzb.specs.Opening.{open_of}
use Rattle.tzb.specs.FullCheck.{full_check_of}
use Rattle.demands.specs.Words.{Position}
use Rattle.demands.specs.Demand3.{Exactly, Demand3}
use Rattle.demands.proofs.Accepted.{accepts_exactly, accepted_with}
use Rattle.demands.proofs.Rules.{accepted_sound, accepted_covered}
use Rattle.demands.proofs.Words.{zone_in_words}
use Rattle.replies.specs.Replies.{accepted}
use Rattle.shapes.specs.Layout.{zone_at}

module _ (file : List ℕ) (accepts : full_check_of file ≡ accepted) (o : Opened) (opened : ok o ≡ open_of file) (zone : ℕ) (its_own : zone < o.zones.count) where
  -- as one equation, and at every whole-number point: outside the domain both say no
  pub contains_is : (q : I32Point) → contains_at o file zone q ≡ ok (zone_in (seg q) (zone_at (directories o file) zone))
  contains_is q =
      let a = accepted_with file accepts o opened in
      contains_exact o file (accepted_sound file o a) (accepted_covered file o a) zone its_own q

  contains_exactly : (p : Position) → Exactly o file zone p.at
  contains_exactly p =
      record {
        says = zone_in (seg p.at) (zone_at (directories o file) zone);
        answers = contains_is p.at;
        exactly = zone_in_words p.at (zone_at (directories o file) zone);
      }

pub demand_3 : (file : List ℕ) → Demand3 file
demand_3 file = record { accepts = accepts_exactly file; contains = contains_exactly file }
