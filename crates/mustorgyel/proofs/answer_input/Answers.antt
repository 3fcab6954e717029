-- `answer_input` prints for the bytes that were read what is printed for the whole input.
use Rattle.std.proofs.Common.{arith, length}
use Rattle.solve_reply.proofs.Whole.{solves_whole}
use Rattle.mustorgyel.proofs.answer_input.Goals as goal

pub returns-clause-answers : goal.returns-clause-answers
returns-clause-answers c =
    let r = c.solve-reply.ensures in
    λ s by e. record { said = r.said; solves = solves_whole (length c.args.buffer.now) by (omega (arith, c.requires.most_read_in_bounds)) e r.right; is = r.replies.text.is }
