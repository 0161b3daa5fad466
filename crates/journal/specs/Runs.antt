-- A run of the program over a reader and a writer: which bytes it took of the one, and what it wrote of them to the other. Of a reader or
-- writer whose bytes are not known it says nothing.
-- Assumes nothing.
use Rattle.std.specs.Prelude.{◌≡◌, ℕ, ◌/◌, ◌%◌, ◌^◌, ◌<◌, Bool, true, false, List, length, ⊤, Result, Ok, Err, Option, IfSome}
use Rattle.std.specs.Io.KnownBytes.{Consumes, Appends, IsAtEnd}
use Rattle.answer.specs.Answers.{Answer}
use Rattle.opened.specs.declared.Opened.{Opened}
use Rattle.journal.specs.declared.Stop.{Stop}
use Rattle.journal.specs.declared.Stop.TheVariants.{Usage, Index, TooLong, Input, WithinPosition, Output}
use Rattle.journal.specs.Answered.{entries_of}

-- the bytes of whole positions
abbrev pub AreWhole : List ℕ → Type 0
AreWhole bytes = length bytes % 8 ≡ 0

-- By what opening answered of the file. The reader had the bytes `before` and has `left`, the writer held `held` and holds `holds`.
module _ (opening : Answer Opened) (file : List ℕ) (before left held holds : Option (List ℕ)) where
  -- some bytes were taken, of which P is true, and the entries of their whole positions were written
  abbrev pub Answers : (List ℕ → Type 0) → Type 0
  Answers P = (bytes : List ℕ) × Consumes before left bytes × Appends held holds (entries_of opening file bytes (length bytes / 8)) × P bytes

  -- Why it stops early, and what was answered by then: all that was taken, also where no more can be read, or the input ends within a position.
  abbrev pub Stops : Stop → Type 0
  Stops (Input why) = Answers (λ bytes. ⊤)
  Stops WithinPosition = Answers (λ bytes. ¬ AreWhole bytes × IsAtEnd left)
  Stops (Output why) = ⊤
  Stops Usage = ⊥
  Stops (Index name why) = ⊥
  Stops (TooLong name) = ⊥

  -- one turn, after which there may be more or not
  abbrev pub TurnEnds : Result Bool Stop → Type 0
  TurnEnds (Ok true) = Answers (λ bytes. length bytes ≡ 4096)
  TurnEnds (Ok false) = Answers (λ bytes. AreWhole bytes × IsAtEnd left)
  TurnEnds (Err why) = Stops why

  -- all turns: up to the input's end, unless that is farther away than the turns are counted
  abbrev pub RunEnds : {A : Type 0} → Result A Stop → Type 0
  RunEnds (Ok a) = Answers (λ bytes. AreWhole bytes × (length bytes < 2 ^ 64 → IsAtEnd left))
  RunEnds (Err why) = Stops why

  -- the entries of all that the reader had
  abbrev pub AllAnswered : Type 0
  AllAnswered = IfSome before (λ bytes. length bytes < 2 ^ 64 → AreWhole bytes × Appends held holds (entries_of opening file bytes (length bytes / 8)))
