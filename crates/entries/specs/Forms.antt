-- Document 02, 2026-04: "The forms: reason 0 with up to three different zone numbers below 65535 in the first places and that count, a count above 0 only for a position in the domain; or no zones, count 0 and reason 1 to 46."
-- Assumes nothing.
use Rattle.std.specs.Prelude.{ℕ, Bool, true, ◌&&◌, ◌||◌, not, cond, List, [], ◌∷◌, length}
use Rattle.std.specs.List.{list_all, list_any}
use Rattle.plane.specs.declared.I32Point.{I32Point}
use Rattle.plane.specs.Domain.{in_domain}
use Rattle.answer.specs.Answers.{Answer, ok, need}
use Rattle.answer.specs.Checks.{at_most, below, same}
use Rattle.entries.specs.Entry.{Entry, unused, entry_wide, bytes_of}

-- "zone numbers below 65535"
unfoldable pub all_below : List ℕ → Bool
all_below l = list_all (λ z. below z unused) l

-- "different"
unfoldable pub among : ℕ → List ℕ → Bool
among z l = list_any (λ t. same t z) l

unfoldable pub all_different : List ℕ → Bool
all_different [] = true
all_different (z ∷ l) = not (among z l) && all_different l

-- "a count above 0 only for a position in the domain"
unfoldable pub placed : I32Point → List ℕ → Bool
placed q zones = same (length zones) 0 || in_domain q

unfoldable pub zones_form : ℕ → I32Point → List ℕ → Bool
zones_form places q zones = at_most (length zones) places && (placed q zones && (all_below zones && all_different zones))

-- "no zones, count 0 and reason 1 to 46": where the reason is not 0
unfoldable pub refusal_form : List ℕ → ℕ → Bool
refusal_form zones reason = same (length zones) 0 && at_most reason 46

unfoldable pub formed : ℕ → Entry → Bool
formed places e = cond (same e.reason 0) (zones_form places e.at e.zones) (refusal_form e.zones e.reason)

-- an entry into lent memory: its bytes, or 46 where there is no room for them
unfoldable pub laid_of : ℕ → Entry → List ℕ → Answer (List ℕ)
laid_of places e room = need 46 (at_most (entry_wide places) (length room)) (ok (bytes_of places e))

-- the writer: "50 for a record of any other form, then 46"
unfoldable pub write_of : ℕ → Entry → List ℕ → Answer (List ℕ)
write_of places e room = need 50 (formed places e) (laid_of places e room)
