-- In a file whose names opening accepts, every zone number below the count has a name: the very bytes that opening judged, at least one.
-- Assumes nothing.
use Prim.Native.Nat.{ℕ, ◌+◌, ◌-◌, ◌<◌, ◌≤◌}
use native.Mathlib.Omega.{arith}
use mathlib.Core.Path.{◌≡◌, refl, sym}
use mathlib.Core.List.{List}
use lib.ListN.{length, drop, length-drop}
use lib.Seq.{length-take-le}
use Rattle.fields.specs.Part.{part}
use Rattle.answer.specs.Answers.{ok, fine}
use Rattle.answer.proofs.CheckLaws.{fine_one, fine_rest, each_at}
use Rattle.opened.specs.declared.Opened.{Opened}
use Rattle.reader_names.specs.Names.{names_check, text, text_at, text_check, edge}
use Rattle.reader_named.specs.Asked.{name_at}
use Rattle.reader_names.proofs.Rises.{fits, rises, ends}
use Rattle.reader_named.proofs.Places.{bounds_in, name_is}
use Rattle.opened.specs.Within.{Within}

pub record Named (o : Opened) (s : List ℕ) (zone : ℕ) : Type 0 where
  pub given : name_at o s zone ≡ ok (text s o.names.off o.zones.count zone)
  pub some : 0 < length (text s o.names.off o.zones.count zone)
  pub judged : text_check (text s o.names.off o.zones.count zone) ≡ fine

part_some : (s : List ℕ) (from to : ℕ) → from < to → to ≤ length s → 0 < length (part s from to)
part_some s from to h k =
    let left : to - from ≤ length (drop from s) = rw (length-drop from s) (omega arith) in
    rw (length-take-le (to - from) (drop from s) left) (omega arith)

pub named : (o : Opened) (s : List ℕ) → Within s o.names → names_check s o.names.off o.names.len o.zones.count ≡ fine
    → (zone : ℕ) → zone < o.zones.count → Named o s zone
unfolding names_check text_at
named o s room e zone h =
    let at = o.names.off in
    let n = o.zones.count in
    let offsets = fine_one _ _ (fine_rest _ _ e) in
    let whole = fits s at o.names.len n room.fits (fine_one _ _ e) in
    let start = rises s at n offsets zone h in
    let end = ends s at n offsets zone h in
    record {
      given = sym (name_is o s zone _ _ (bounds_in s at n zone h (omega arith) _ _ refl refl (omega arith) (omega arith)));
      some = part_some s (edge s at n zone) (edge s at n (zone + 1)) (omega arith) (omega arith);
      judged = each_at _ _ zone (fine_one _ _ (fine_rest _ _ (fine_rest _ _ e))) h;
    }
