-- `fields::load` meets its contract, by the laws of `loaded`.
-- Assumes nothing.
use mathlib.Core.Path.{ap, ◌∙◌}
use Rattle.std.proofs.Common.{rules}
use Rattle.fields.specs.Loads.{inside}
use Rattle.fields.proofs.LoadsLaws.{room, load_past, load_in}
use Rattle.fields.proofs.load.Goals as goal

pub returns-in_err-claim : goal.returns-in_err-claim
returns-in_err-claim g c =
    let a = c.args in
    let e = c.inside.ensures ∙ ap (λ n. inside n a.raw.now a.off) c.WIDE.ensures in
    let p = load_past g.N.Number.WIDE a.raw.now a.off c.inside.result e g.N.Number.of _ c.in_err-claim.ensures in
    search rules

pub at-requires : goal.at-requires
at-requires g c =
    let a = c.args in
    let e = c.inside.ensures ∙ ap (λ n. inside n a.raw.now a.off) c.WIDE.ensures in
    room g.N.Number.WIDE a.raw.now a.off c.inside.result e c.in_ok-claim.ensures

pub returns : goal.returns
returns g c =
    let a = c.args in
    let e = c.inside.ensures ∙ ap (λ n. inside n a.raw.now a.off) c.WIDE.ensures in
    load_in g.N.Number.WIDE a.raw.now a.off c.inside.result e g.N.Number.of c.at.result c.in_ok-claim.ensures c.at.ensures
