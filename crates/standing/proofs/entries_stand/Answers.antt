use mathlib.Core.Path.{sym, ◌∙◌}
use native.Mathlib.Omega.{arith}
use native.Mathlib.Numerals.{add-one}
use Rattle.standing.proofs.Walk.{stood_fits, placed_next, placed_stop, placed_end}
use Rattle.standing.proofs.entries_stand.Goals as goal

pub returns-then-not-entry_stands : goal.returns-then-not-entry_stands
returns-then-not-entry_stands c = λ n h.
    sym (stood_fits n _ _ c.if-placement-count.false c.if-count-gt-ENTRIES.false ∙ c.loop-k.invariant n h ∙ placed_stop n c.loop-k.before _ _ c.loop-k.k c.if-placement-count.false _ (omega arith) (rw c.entry-entry.ensures at (c.entry_stands.ensures n h)) c.if-not-entry_stands.true)

pub loop-k-preserved : goal.loop-k-preserved
loop-k-preserved c = λ n h.
    rw (add-one, c.entry-entry.ensures) (c.loop-k.invariant n h ∙ placed_next n c.loop-k.before _ _ c.loop-k.k c.if-placement-count.false _ (omega arith) (rw c.entry-entry.ensures at (c.entry_stands.ensures n h)) c.if-not-entry_stands.false)

pub returns : goal.returns
returns c = λ n h.
    sym (stood_fits n _ _ c.if-placement-count.false c.if-count-gt-ENTRIES.false ∙ c.loop-k.invariant n h ∙ placed_end n c.loop-k.before _ _ c.loop-k.k c.if-placement-count.false (omega arith))
