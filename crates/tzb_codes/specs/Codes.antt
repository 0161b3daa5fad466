-- Answers as single numbers, for the exports. Document 01, "Port order": -1000 - n for refusal n.
-- Assumes nothing.
use Rattle.std.specs.Prelude.{ℕ, ◌+◌, ◌*◌, min, Bool, true, false, cond, ltb, ℤ, pos, negsuc}
use Rattle.answer.specs.declared.Refusal.{Refusal}
use Rattle.answer.specs.Answers.{Answer, ok, refused}
use Rattle.plane.specs.Sight.{Sight, On, Off}
use Rattle.replies.specs.Replies.{Chosen, none, all, listed, Sought, nowhere, in_zone, Outcome, accepted, refused_by, broken_at, Drawn, drawn, undrawn, unsound}

-- yes is 1, no is 0
abbrev pub bit_of : Bool → ℕ
bit_of true = 1
bit_of false = 0

-- -1000 - n. A refusal's number has at most three digits; one that had more would be told as 999.
unfoldable pub refusal_code : Refusal → ℤ
refusal_code r = negsuc (999 + min r.number 999)

-- ---- answers as numbers, -1000 - n for refusal n
-- 0 where it was done, and what is asked for stands in lent memory
abbrev pub done_code : {A : Type 0} → Answer A → ℤ
done_code (ok a) = pos 0
done_code (refused k) = refusal_code k

-- a count, a zone or a place
abbrev pub number_code : Answer ℕ → ℤ
number_code (ok n) = pos n
number_code (refused k) = refusal_code k

-- a length or a count of 64 bits; one of 2 ^ 63 or more, which none is, would be told as 2 ^ 63 - 1
abbrev pub whole_code : ℕ → ℤ
whole_code n = pos (min n 0x7fff_ffff_ffff_ffff)

-- how many numbers stripes take, or were written
abbrev pub needed_code : Answer ℕ → ℤ
needed_code (ok n) = whole_code n
needed_code (refused k) = refusal_code k

-- where a name starts, and where it ends
abbrev pub start_code : Answer (ℕ × ℕ) → ℤ
start_code (ok b) = pos b.0
start_code (refused k) = refusal_code k

abbrev pub end_code : Answer (ℕ × ℕ) → ℤ
end_code (ok b) = pos b.1
end_code (refused k) = refusal_code k

-- 0 none, 1 all zones, 2 those listed for a cell
abbrev pub kind_code : Answer Chosen → ℤ
kind_code (ok none) = pos 0
kind_code (ok (all n)) = pos 1
kind_code (ok (listed n p)) = pos 2
kind_code (refused k) = refusal_code k

-- how many are listed and the place of the first; the number of all zones; else 0
abbrev pub listed_of : Answer Chosen → ℕ
listed_of (ok none) = 0
listed_of (ok (all n)) = n
listed_of (ok (listed n p)) = n * 0x1_0000_0000 + p
listed_of (refused k) = 0

-- 1 yes, 0 no
abbrev pub inside_code : Answer Bool → ℤ
inside_code (ok true) = pos 1
inside_code (ok false) = pos 0
inside_code (refused k) = refusal_code k

-- a zone, -1 for none
abbrev pub zone_code : Answer Sought → ℤ
zone_code (ok nowhere) = negsuc 0
zone_code (ok (in_zone zone)) = pos zone
zone_code (refused k) = refusal_code k

-- the full check: 0 accepted; a refusal of opening; 47, whose rule is told apart
abbrev pub check_code : Outcome → ℤ
check_code accepted = pos 0
check_code (refused_by k) = refusal_code k
check_code (broken_at k rule) = refusal_code k

-- the rule beside 47, else 0
abbrev pub rule_of : Outcome → ℕ
rule_of accepted = 0
rule_of (refused_by k) = 0
rule_of (broken_at k rule) = rule

-- a map: how many bytes it has; a refusal; 47, whose rule is told apart
abbrev pub drawn_code : Drawn ℕ → ℤ
drawn_code (drawn n) = whole_code n
drawn_code (undrawn k) = refusal_code k
drawn_code (unsound k rule) = refusal_code k

-- 2 for on, 1 for counts, 0 for neither
abbrev pub seen_code : Sight → ℤ
seen_code On = pos 2
seen_code (Off true) = pos 1
seen_code (Off false) = pos 0

-- ---- places
-- Document 02, request 2026-06: "a second one returns the place in 64 bits, or -1 where there is none"
unfoldable pub place_code : Refusal → ℤ
place_code r = cond (ltb r.place 0x8000_0000_0000_0000) (pos r.place) (negsuc 0)

-- of an answer; -1 also where it is no refusal
abbrev pub place_of : {A : Type 0} → Answer A → ℤ
place_of (ok a) = negsuc 0
place_of (refused r) = place_code r
