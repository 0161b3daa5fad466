-- What each case says, in document 01's numbers and values.
-- Assumes nothing.
use Rattle.std.specs.Prelude.{ℕ}
use Rattle.std.specs.declared.option.Option.{Option}
use Rattle.std.specs.declared.option.Option.TheVariants.{None, Some}
use Rattle.std.specs.declared.result.Result.{Result}
use Rattle.std.specs.declared.result.Result.TheVariants.{Ok, Err}
use Rattle.answer.specs.declared.Refusal.{Refusal}
use Rattle.replies.specs.declared.Choice.{Choice}
use Rattle.replies.specs.declared.Choice.TheVariants as C
use Rattle.replies.specs.declared.Fault.{Fault}
use Rattle.replies.specs.declared.Fault.TheVariants as F

-- no candidate; all of that many zones; that many entries of the candidate list, from that place on (a word's count may be 0: then nothing is listed)
abbrev pub Chosen : Type 0
Chosen = Choice

pattern abbrev pub none : Chosen
none = C.None

pattern abbrev pub all : ℕ → Chosen
all zones = C.All zones

pattern abbrev pub listed : ℕ → ℕ → Chosen
listed count place = C.Listed count place

-- in no zone, or in that one
abbrev pub Sought : Type 0
Sought = Option ℕ

pattern abbrev pub nowhere : Sought
nowhere = None

pattern abbrev pub in_zone : ℕ → Sought
in_zone zone = Some zone

-- the full check: where F1 is broken opening's number, else 47 with the lowest broken rule
abbrev pub Outcome : Type 0
Outcome = Result (Unit {0}) Fault

pattern abbrev pub accepted : Outcome
accepted = Ok tt

pattern abbrev pub refused_by : Refusal → Outcome
refused_by r = Err (F.Refused r)

pattern abbrev pub broken_at : Refusal → ℕ → Outcome
broken_at r rule = Err (F.Broken r rule)

-- what is drawn of a file: a map, or its length; else a refusal; or 47 with the lowest broken rule, where the full check does not accept the file
abbrev pub Drawn : Type 0 → Type 0
Drawn A = Result A Fault

pattern abbrev pub drawn : {A : Type 0} → A → Drawn A
drawn a = Ok a

pattern abbrev pub undrawn : {A : Type 0} → Refusal → Drawn A
undrawn r = Err (F.Refused r)

pattern abbrev pub unsound : {A : Type 0} → Refusal → ℕ → Drawn A
unsound r rule = Err (F.Broken r rule)
