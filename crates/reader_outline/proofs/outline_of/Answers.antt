-- `outline_of` meets its contract: the positions, then the outline of them.
-- Assumes nothing.
use mathlib.Core.Path.{◌∙◌}
use native.Mathlib.Omega.{arith}
use Rattle.std.proofs.Common.{rules}
use Rattle.reader_outline.proofs.Drawing.{drawn_over, held_few, held_domain, held_drawn}
use Rattle.reader_outline.proofs.outline_of.Goals as goal

pub returns-in_err-n : goal.returns-in_err-n
returns-in_err-n c =
    let e = drawn_over _ c.args.hole _ c.in_err-n.ensures.0 in
    record { result_value = search rules; memory = c.in_err-n.ensures.1 }

pub drawn-requires : goal.drawn-requires
drawn-requires c =
    let n = held_few _ _ c.requires.ready _ c.requires.ring_lt_count _ _ c.in_ok-n.ensures.0 c.in_ok-n.ensures.1 in
    record { n_bound = (n, omega (arith, n, c.ring_positions.auto.held, c.requires.held_len)); n_value = held_domain _ _ c.requires.ready _ c.requires.ring_lt_count _ _ c.in_ok-n.ensures.0 c.in_ok-n.ensures.1 }

pub returns : goal.returns
returns c =
    record { result_value = c.drawn.ensures ∙ held_drawn _ _ c.requires.ready _ c.requires.ring_lt_count _ _ c.in_ok-n.ensures.0 c.in_ok-n.ensures.1 _; memory = c.in_ok-n.ensures.1 }
