-- Each turn that is not the last took 4,096 bytes.
use Rattle.std.proofs.Common.{◌≡◌, ◌*◌, length}
use Rattle.journal.specs.Runs.{Answers}
use Rattle.journal.proofs.answer.Given as goal

abbrev pub invariant-loop-turn : goal.invariant-loop-turn
invariant-loop-turn g l =
    Answers l.opening l.file (g.R.Read.remaining l.initial.from) (g.R.Read.remaining l.from) (g.W.Write.contents l.initial.to) (g.W.Write.contents l.to)
    (λ bytes. length bytes ≡ 4096 * l._turn)
