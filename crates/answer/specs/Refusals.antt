-- A refusal: its number in document 01 and, by document 02's request 2026-06, the place of the byte that it is about.
-- Assumes nothing.
use Rattle.std.specs.Prelude.{ℕ, ◌+◌, min}
use Rattle.answer.specs.declared.Refusal.{Refusal}

-- "or -1 where there is none", in 64 bits: no byte stands there, for no slice is as long
abbrev pub no_place : ℕ
no_place = 0xffff_ffff_ffff_ffff

-- a refusal without a place
abbrev pub refusal : ℕ → Refusal
refusal n = record { number = n; place = no_place }

-- the same refusal, about the byte at p
abbrev pub placed_at : ℕ → Refusal → Refusal
placed_at p r = record { number = r.number; place = p }

-- the same refusal of bytes that stand behind a others: its place is counted from the first of all. A place that 64 bits do not hold, which none is, would be none.
unfoldable pub counted_from : ℕ → Refusal → Refusal
counted_from a r = record { number = r.number; place = min (a + r.place) no_place }
