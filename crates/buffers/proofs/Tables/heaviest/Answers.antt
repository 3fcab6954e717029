use Rattle.std.proofs.Common.{ℕ, Option, Some, arith, sym, subst, length, get_or}
use Rattle.buffers.proofs.Scanning.{Scan, scan_start, chain_on, scan_past, scan_take, scan_end}
use Rattle.buffers.proofs.Tables.heaviest.Goals as goal
use Rattle.buffers.proofs.Tables.heaviest.Goals.{then-most-top, else-most-top}

pub loop-j-init : goal.loop-j-init
loop-j-init c = scan_start _ _ _ _

pub loop-j-smaller : goal.loop-j-smaller
loop-j-smaller c =
    let s = c.loop-j.invariant.part c.requires.js c.requires.chain in
    omega (arith, chain_on c.args.self.now.links (length c.args.self.now.tops) c.loop-j.j s.rest s.chain (omega arith))

pub loop-j-preserved : goal.loop-j-preserved
loop-j-preserved c =
    let t = c.args.self.now in
    let scan : Option ℕ → ℕ → Type 0 = λ best most. Scan t.links t.tops c.args.first c.args.pin best most (get_or t.links c.loop-j.j 0) in
    elim c.if-most-top.branch [
      | then-most-top w ↦ subst (λ x. scan x c.if-most-top.most) (sym w.best-is) (subst (scan (Some c.loop-j.j)) (sym w.most-is) (scan_take c.loop-j.invariant (omega arith) w.if-most-top.true))
      | else-most-top w ↦ subst (λ x. scan x c.if-most-top.most) (sym w.best-is) (subst (scan c.loop-j.best) (sym w.most-is) (scan_past c.loop-j.invariant (omega arith) w.if-most-top.false))
    ]

pub returns : goal.returns
returns c = scan_end c.loop-j.invariant (omega arith)
