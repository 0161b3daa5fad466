-- `place_hits` meets its contract: 46, or the zones written and then put in order.
-- Assumes nothing.
use mathlib.Core.Path.{sym, ap}
use lib.ListN.{length}
use lib.Seq.{length-take-le}
use Rattle.std.proofs.lemmas.Result.{err_from_is_err_and}
use Rattle.answer.specs.Answers.{how_many, left}
use Rattle.reader_listing.proofs.Placed.{kept_by, claim_yes, claim_no, place_short, place_count, place_memory}
use Rattle.reader_listing.proofs.place_hits.Goals as goal

pub returns-in_err-claim : goal.returns-in_err-claim
returns-in_err-claim c =
    let p = err_from_is_err_and c.from_residual.result c.from_residual.ensures.1 in
    let h = claim_no _ _ _ _ c.in_err-claim.ensures in
    let e = place_short _ _ c.requires.count c.args.o c.args.s.now (length c.args.out.now) h.0 in
    record { result_value = rw (p.1, p.2, h.1) (ap how_many e); memory = ap (left c.args.out.now) e }

pub slice_bounds-places-end : goal.slice_bounds-places-end
slice_bounds-places-end c = claim_yes _ _ _ c.in_ok-claim.ensures

pub slice_bounds-places-end-2 : goal.slice_bounds-places-end-2
slice_bounds-places-end-2 c = sym (length-take-le _ _ (claim_yes _ _ _ c.in_ok-claim.ensures))

pub write_hits-requires : goal.write_hits-requires
write_hits-requires c =
    let n = length-take-le c.args.k c.args.out.now (claim_yes _ _ _ c.in_ok-claim.ensures) in
    kept_by _ _ _ _ c.requires n

pub returns : goal.returns
returns c =
    let h = claim_yes _ _ _ c.in_ok-claim.ensures in
    record {
      result_value = place_count _ _ c.requires.count c.args.o c.args.s.now (length c.args.out.now) h;
      memory = place_memory _ _ c.requires.count c.args.o c.args.s.now c.args.out.now h _ _ c.write_hits.ensures c.sort_zones.ensures;
    }
