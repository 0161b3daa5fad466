-- One small file that the full check accepts: a header, a table, a name, and the worked zone of shapes as directories has it in bytes (a square with a hole, and a triangle), with no GRID.
-- Assumes nothing.
use Rattle.std.specs.Prelude.{ℕ, List, [], ◌∷◌, ◌++◌, pos}
use Rattle.opened.specs.declared.Opened.{Opened}
use Rattle.directories.specs.Example.{bytes}

-- the header, from 0 on
abbrev header : List ℕ
header = 84 ∷ 90 ∷ 70 ∷ 66 ∷ 1 ∷ 0 ∷ 64 ∷ 0 ∷ 0 ∷ 0 ∷ 0 ∷ 0 ∷ 160 ∷ 134 ∷ 1 ∷ 0 ∷ 14 ∷ 3 ∷ 0 ∷ 0 ∷ 8 ∷ 0 ∷ 0 ∷ 0 ∷ 50 ∷ 48 ∷ 50 ∷ 53 ∷ 98 ∷ 0 ∷ 0 ∷ 0 ∷ 0 ∷ 0 ∷ 0 ∷ 0 ∷ 0 ∷ 0 ∷ 0 ∷ 0 ∷ 1 ∷ 0 ∷ 0 ∷ 0 ∷ 64 ∷ 0 ∷ 0 ∷ 0 ∷ 0 ∷ 0 ∷ 0 ∷ 0 ∷ 0 ∷ 0 ∷ 0 ∷ 0 ∷ 0 ∷ 0 ∷ 0 ∷ 0 ∷ 0 ∷ 0 ∷ 0 ∷ 0 ∷ []

-- the section table, from 64 on
abbrev table : List ℕ
table = 1 ∷ 0 ∷ 0 ∷ 0 ∷ 192 ∷ 0 ∷ 0 ∷ 0 ∷ 17 ∷ 0 ∷ 0 ∷ 0 ∷ 0 ∷ 0 ∷ 0 ∷ 0 ∷ 2 ∷ 0 ∷ 0 ∷ 0 ∷ 212 ∷ 0 ∷ 0 ∷ 0 ∷ 24 ∷ 0 ∷ 0 ∷ 0 ∷ 0 ∷ 0 ∷ 0 ∷ 0 ∷ 3 ∷ 0 ∷ 0 ∷ 0 ∷ 236 ∷ 0 ∷ 0 ∷ 0 ∷ 48 ∷ 0 ∷ 0 ∷ 0 ∷ 0 ∷ 0 ∷ 0 ∷ 0 ∷ 4 ∷ 0 ∷ 0 ∷ 0 ∷ 28 ∷ 1 ∷ 0 ∷ 0 ∷ 84 ∷ 0 ∷ 0 ∷ 0 ∷ 0 ∷ 0 ∷ 0 ∷ 0 ∷ 5 ∷ 0 ∷ 0 ∷ 0 ∷ 112 ∷ 1 ∷ 0 ∷ 0 ∷ 20 ∷ 0 ∷ 0 ∷ 0 ∷ 0 ∷ 0 ∷ 0 ∷ 0 ∷ 6 ∷ 0 ∷ 0 ∷ 0 ∷ 132 ∷ 1 ∷ 0 ∷ 0 ∷ 220 ∷ 0 ∷ 0 ∷ 0 ∷ 0 ∷ 0 ∷ 0 ∷ 0 ∷ 7 ∷ 0 ∷ 0 ∷ 0 ∷ 96 ∷ 2 ∷ 0 ∷ 0 ∷ 144 ∷ 0 ∷ 0 ∷ 0 ∷ 0 ∷ 0 ∷ 0 ∷ 0 ∷ 9 ∷ 0 ∷ 0 ∷ 0 ∷ 240 ∷ 2 ∷ 0 ∷ 0 ∷ 26 ∷ 0 ∷ 0 ∷ 0 ∷ 0 ∷ 0 ∷ 0 ∷ 0 ∷ []

-- NAMES: "Etc/0", from 192 on
abbrev names : List ℕ
names = 5 ∷ 0 ∷ 0 ∷ 0 ∷ 0 ∷ 0 ∷ 0 ∷ 0 ∷ 5 ∷ 0 ∷ 0 ∷ 0 ∷ 69 ∷ 116 ∷ 99 ∷ 47 ∷ 48 ∷ 0 ∷ 0 ∷ 0 ∷ []

-- the directories and the points: those of directories/specs/Example, from 212 on

-- the checksum, from 778 on
abbrev checksum : List ℕ
checksum = 152 ∷ 91 ∷ 239 ∷ 221 ∷ []

unfoldable pub file : List ℕ
file = header ++ table ++ names ++ bytes ++ checksum

-- the record that it opens to
unfoldable pub opened : Opened
opened =
    record {
      flags = 0;
      names = record { off = 192; len = 17 };
      zones = record { off = 212; count = 1 };
      polys = record { off = 236; count = 2 };
      rings = record { off = 284; count = 3 };
      ops = record { off = 368; count = 5 };
      groups = record { off = 388; count = 5 };
      chunks = record { off = 608; count = 6 };
      points = record { off = 752; len = 26 };
      grid = record { off = 0; lng = pos 0; lat = pos 0; cols = 0; rows = 0; total = 0 };
    }
