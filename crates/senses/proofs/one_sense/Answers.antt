use mathlib.Core.Path.{sym, ◌∙◌}
use native.Mathlib.Omega.{arith}
use Rattle.senses.proofs.Odd.{odd_same, odd_differ}
use Rattle.senses.proofs.Senses.{senses_other, senses_same, senses_differ, senses_end, none_to_judge, against_lowest}
use Rattle.senses.proofs.one_sense.Goals as goal
use Rattle.senses.proofs.one_sense.Goals.{then-net-i-eq1+else-own-expected, else-net-i-eq1}

pub returns-in_default : goal.returns-in_default
returns-in_default c = sym (none_to_judge _ c.args.on.now.placed.sound (sym c.first_sink.ensures ∙ c.in_default.is))

pub returns-then-own-expected : goal.returns-then-own-expected
returns-then-own-expected c =
    let differ = rw (c.sense-own.ensures _ c.requires, c.sense-expected.ensures _ c.requires) at c.if-own-expected.true in
    senses_differ c.loop-i.invariant (omega arith) c.if-net-i-eq1.true (odd_differ _ _ differ)
    ∙ sym (against_lowest _ c.args.on.now.placed.sound c.in-Some.lowest (sym c.first_sink.ensures ∙ c.in-Some.is))

pub loop-i-preserved : goal.loop-i-preserved
loop-i-preserved c =
    elim c.if-net-i-eq1.branch [
      | then-net-i-eq1+else-own-expected w ↦ (
          let same = rw (w.sense-own.ensures _ c.requires, c.sense-expected.ensures _ c.requires) at w.if-own-expected.false in
          senses_same c.loop-i.invariant (omega arith) w.if-net-i-eq1.true (odd_same _ _ same)
          )
      | else-net-i-eq1 w ↦ senses_other c.loop-i.invariant (omega arith) w.if-net-i-eq1.false
    ]

pub returns : goal.returns
returns c = senses_end c.loop-i.invariant (omega arith) (omega arith) ∙ sym (against_lowest _ c.args.on.now.placed.sound c.in-Some.lowest (sym c.first_sink.ensures ∙ c.in-Some.is))
