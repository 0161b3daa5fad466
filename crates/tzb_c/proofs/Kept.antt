-- A record that was written by opening is read back as opening's own: to open once and ask with its bytes is to ask with the record. And what follows from an answer.
-- Assumes nothing.
use Prim.Native.Nat.{ℕ, ◌≤◌, ◌<◌}
use native.Mathlib.Omega.{arith}
use mathlib.Core.Path.{◌≡◌, sym, ap, ◌∙◌}
use mathlib.Core.List.{List}
use lib.ListN.{length, take, get_or}
use lib.Ieee.{Float}
use Rattle.answer.specs.Answers.{Answer, ok, ◌then◌, left}
use Rattle.opened.specs.declared.Opened.{Opened}
use Rattle.reader_named.specs.Asked as N
use Rattle.reader_named.proofs.Places.{bounds_good}
use Rattle.reader_lookup.specs.Asking.{lookup_of}
use Rattle.tzb_record.specs.Layout.{record_wide, record_of, Held}
use Rattle.tzb_record.proofs.RoundTrip.{written_back}
use Rattle.tzb.specs.Opening.{open_of}
use Rattle.tzb.proofs.Given.{opened_is_law, zones_few}
use Rattle.reader_ways.specs.Ways.{plain}
use Rattle.tzb_asked.specs.Asked.{name_asked, lookup_asked, lookup_asked_by}
use Rattle.tzb_asked.proofs.Zones.{found_below}
use Rattle.tzb_c.specs.Opens.{open_into, lookup_once}
use Rattle.replies.specs.Replies.{in_zone}
use Rattle.answer.proofs.AnswersLaws.{then_ok, then_inv}
use Rattle.tzb_c.proofs.OpensLaws.{open_into_law}
use Rattle.tzb_c.proofs.OpenedHeld.{opened_held}

-- a name that is given lies in the file
pub name_inside : (b s : List ℕ) (zone from to : ℕ) → ok (from, to) ≡ name_asked b s zone → (from ≤ to) × (to ≤ length s)
unfolding name_asked
name_inside b s zone from to e =
    let t = then_inv (record_of b) (λ o. N.bounds_at s o.names.off o.zones.count zone) (from, to) e in
    bounds_good s t.0.names.off t.0.zones.count zone from to t.2

-- a file of bytes, each below 256, opened into lent memory that has room for its record
module _ (s room : List ℕ) (byte : (i : ℕ) → get_or s i 0 < 256) (o : Opened) (opened : ok o ≡ open_of s) (fits : record_wide ≤ length room) where
  -- the first bytes of that memory, as many as a record's, are read as opening's own record
  pub record_kept : ok o ≡ record_of (take record_wide (left room (open_into s room)))
  record_kept =
      let held : Held o = rw (opened_is_law s o opened) (opened_held s byte) in
      written_back o room held fits ∙ ap (λ (x : Answer (List ℕ)). record_of (take record_wide (left room x))) (open_into_law s room o opened)

  -- so every question that is asked with them is asked of it
  pub asked_once : {A : Type 0} (f : Opened → Answer A) → (record_of (take record_wide (left room (open_into s room))) then f) ≡ (open_of s then f)
  asked_once f = sym (then_ok _ f o record_kept) ∙ then_ok _ f o opened

  -- and the zone of a position is that of opening and asking at once
  pub lookup_kept : (lng lat : Float) → lookup_asked (take record_wide (left room (open_into s room))) s lng lat ≡ lookup_once s lng lat
  unfolding lookup_asked_by lookup_once
  lookup_kept lng lat = asked_once (λ o. lookup_of o s lng lat)

-- a zone of a file that was opened has a number below 65,535
pub once_small : (s : List ℕ) (lng lat : Float) (zone : ℕ) → ok (in_zone zone) ≡ lookup_once s lng lat → zone < 65_535
unfolding lookup_once
once_small s lng lat zone e =
    let t = then_inv (open_of s) (λ o. lookup_of o s lng lat) (in_zone zone) e in
    omega (arith, found_below plain zone t.0 s lng lat t.2, zones_few s t.0 t.1)
