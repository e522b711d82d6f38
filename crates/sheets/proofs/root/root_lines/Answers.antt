-- Each goal has a context of its own, with the facts of the steps before it: so each answer names again what these gave.
use Rattle.std.proofs.Common.{arith}
use Rattle.registers.specs.Values.{number_value}
use Rattle.sheets.specs.Operands.{units_of}
use Rattle.sheets.proofs.Placing.{root_moderate}
use Rattle.sheets.proofs.Scales.{rounds_alike}
use Rattle.sheets.proofs.Stepped.{sum_given, sum_is}
use Rattle.sheets.proofs.RootWorked.{seeded, seed_moderate, started, need_s0, need_d0, need_h1, need_s1, need_d1, need_e1, need_s2, need_h2, need_e2, worked, some, same_side}
use Rattle.sheets.proofs.root.root_lines.Goals as goal

pub placed-y-requires : goal.placed-y-requires
placed-y-requires g c =
    let p = c.from-form.result in
    let t = c.from-radicand.result in
    let seeds = g.S.Source.roots c.args.source.now in
    let close = g.met.S.Source.roots_close c.args.source.now t.bits t.range in
    let m = root_moderate t.bits (seeds t.bits) (number_value c.root-seed.result) t.range close c.root-seed.ensures in
    (m.0, (m.1, (omega arith, omega (arith, p.range))))

pub halved-requires : goal.halved-requires
halved-requires g c =
    let p = c.from-form.result in
    let t = c.from-radicand.result in
    let seeds = g.S.Source.roots c.args.source.now in
    let close = g.met.S.Source.roots_close c.args.source.now t.bits t.range in
    let r = seeded seeds (units_of c.args.a) p t.bits (number_value c.root-seed.result) (number_value c.placed-y.result) c.from-form.ensures c.from-radicand.ensures t.range c.root-seed.ensures close c.placed-y.ensures.plus c.placed-y.ensures.exact in
    seed_moderate seeds (units_of c.args.a) p (number_value c.placed-y.result) r

pub line-s0-requires : goal.line-s0-requires
line-s0-requires g c =
    let s = started _ (units_of c.args.a) c.from-form.result c.from-radicand.result.bits _ _ _ (number_value c.placed-y.result) c.halved.result (g.met.S.Source.roots_close c.args.source.now) c.from-form.ensures c.from-x.ensures c.power-half.ensures c.from-radicand.result.range c.from-radicand.ensures c.root-seed.ensures c.placed-y.ensures.plus c.placed-y.ensures.exact c.halved.ensures in
    sum_given 30 c.product.ensures (need_s0 _ _ _ _ _ _ s)

pub line-d0-requires : goal.line-d0-requires
line-d0-requires g c =
    let s = started _ (units_of c.args.a) c.from-form.result c.from-radicand.result.bits _ _ _ (number_value c.placed-y.result) c.halved.result (g.met.S.Source.roots_close c.args.source.now) c.from-form.ensures c.from-x.ensures c.power-half.ensures c.from-radicand.result.range c.from-radicand.ensures c.root-seed.ensures c.placed-y.ensures.plus c.placed-y.ensures.exact c.halved.ensures in
    let s0_is = sum_is 30 c.product.ensures c.line-s0.ensures in
    sum_given 30 c.residual.ensures (need_d0 _ _ _ _ _ _ s _ s0_is)

pub line-h1-requires : goal.line-h1-requires
line-h1-requires g c =
    let s = started _ (units_of c.args.a) c.from-form.result c.from-radicand.result.bits _ _ _ (number_value c.placed-y.result) c.halved.result (g.met.S.Source.roots_close c.args.source.now) c.from-form.ensures c.from-x.ensures c.power-half.ensures c.from-radicand.result.range c.from-radicand.ensures c.root-seed.ensures c.placed-y.ensures.plus c.placed-y.ensures.exact c.halved.ensures in
    let s0_is = sum_is 30 c.product.ensures c.line-s0.ensures in
    let d0_is = sum_is 30 c.residual.ensures c.line-d0.ensures in
    sum_given 30 c.improved.ensures (need_h1 _ _ _ _ _ _ s _ s0_is _ d0_is)

pub line-s1-requires : goal.line-s1-requires
line-s1-requires g c =
    let s = started _ (units_of c.args.a) c.from-form.result c.from-radicand.result.bits _ _ _ (number_value c.placed-y.result) c.halved.result (g.met.S.Source.roots_close c.args.source.now) c.from-form.ensures c.from-x.ensures c.power-half.ensures c.from-radicand.result.range c.from-radicand.ensures c.root-seed.ensures c.placed-y.ensures.plus c.placed-y.ensures.exact c.halved.ensures in
    let s0_is = sum_is 30 c.product.ensures c.line-s0.ensures in
    let d0_is = sum_is 30 c.residual.ensures c.line-d0.ensures in
    sum_given 30 c.improved-2.ensures (need_s1 _ _ _ _ _ _ s _ s0_is _ d0_is)

pub line-d1-requires : goal.line-d1-requires
line-d1-requires g c =
    let s = started _ (units_of c.args.a) c.from-form.result c.from-radicand.result.bits _ _ _ (number_value c.placed-y.result) c.halved.result (g.met.S.Source.roots_close c.args.source.now) c.from-form.ensures c.from-x.ensures c.power-half.ensures c.from-radicand.result.range c.from-radicand.ensures c.root-seed.ensures c.placed-y.ensures.plus c.placed-y.ensures.exact c.halved.ensures in
    let s0_is = sum_is 30 c.product.ensures c.line-s0.ensures in
    let d0_is = sum_is 30 c.residual.ensures c.line-d0.ensures in
    let h1_is = sum_is 30 c.improved.ensures c.line-h1.ensures in
    let s1_is = sum_is 30 c.improved-2.ensures c.line-s1.ensures in
    sum_given 30 c.residual-2.ensures (need_d1 _ _ _ _ _ _ s _ s0_is _ d0_is _ h1_is _ s1_is)

pub line-e1-requires : goal.line-e1-requires
line-e1-requires g c =
    let s = started _ (units_of c.args.a) c.from-form.result c.from-radicand.result.bits _ _ _ (number_value c.placed-y.result) c.halved.result (g.met.S.Source.roots_close c.args.source.now) c.from-form.ensures c.from-x.ensures c.power-half.ensures c.from-radicand.result.range c.from-radicand.ensures c.root-seed.ensures c.placed-y.ensures.plus c.placed-y.ensures.exact c.halved.ensures in
    let s0_is = sum_is 30 c.product.ensures c.line-s0.ensures in
    let d0_is = sum_is 30 c.residual.ensures c.line-d0.ensures in
    let h1_is = sum_is 30 c.improved.ensures c.line-h1.ensures in
    let s1_is = sum_is 30 c.improved-2.ensures c.line-s1.ensures in
    sum_given 30 c.residual-3.ensures (need_e1 _ _ _ _ _ _ s _ s0_is _ d0_is _ h1_is _ s1_is)

pub line-s2-requires : goal.line-s2-requires
line-s2-requires g c =
    let s = started _ (units_of c.args.a) c.from-form.result c.from-radicand.result.bits _ _ _ (number_value c.placed-y.result) c.halved.result (g.met.S.Source.roots_close c.args.source.now) c.from-form.ensures c.from-x.ensures c.power-half.ensures c.from-radicand.result.range c.from-radicand.ensures c.root-seed.ensures c.placed-y.ensures.plus c.placed-y.ensures.exact c.halved.ensures in
    let s0_is = sum_is 30 c.product.ensures c.line-s0.ensures in
    let d0_is = sum_is 30 c.residual.ensures c.line-d0.ensures in
    let h1_is = sum_is 30 c.improved.ensures c.line-h1.ensures in
    let s1_is = sum_is 30 c.improved-2.ensures c.line-s1.ensures in
    let d1_is = sum_is 30 c.residual-2.ensures c.line-d1.ensures in
    let e1_is = sum_is 30 c.residual-3.ensures c.line-e1.ensures in
    sum_given 24 c.corrected.ensures (need_s2 _ _ _ _ _ _ s _ s0_is _ d0_is _ h1_is _ s1_is _ d1_is _ e1_is)

pub line-h2-requires : goal.line-h2-requires
line-h2-requires g c =
    let s = started _ (units_of c.args.a) c.from-form.result c.from-radicand.result.bits _ _ _ (number_value c.placed-y.result) c.halved.result (g.met.S.Source.roots_close c.args.source.now) c.from-form.ensures c.from-x.ensures c.power-half.ensures c.from-radicand.result.range c.from-radicand.ensures c.root-seed.ensures c.placed-y.ensures.plus c.placed-y.ensures.exact c.halved.ensures in
    let s0_is = sum_is 30 c.product.ensures c.line-s0.ensures in
    let d0_is = sum_is 30 c.residual.ensures c.line-d0.ensures in
    let h1_is = sum_is 30 c.improved.ensures c.line-h1.ensures in
    let s1_is = sum_is 30 c.improved-2.ensures c.line-s1.ensures in
    let d1_is = sum_is 30 c.residual-2.ensures c.line-d1.ensures in
    let e1_is = sum_is 30 c.residual-3.ensures c.line-e1.ensures in
    sum_given 30 c.improved-3.ensures (need_h2 _ _ _ _ _ _ s _ s0_is _ d0_is _ h1_is _ s1_is _ d1_is _ e1_is)

pub line-e2-requires : goal.line-e2-requires
line-e2-requires g c =
    let s = started _ (units_of c.args.a) c.from-form.result c.from-radicand.result.bits _ _ _ (number_value c.placed-y.result) c.halved.result (g.met.S.Source.roots_close c.args.source.now) c.from-form.ensures c.from-x.ensures c.power-half.ensures c.from-radicand.result.range c.from-radicand.ensures c.root-seed.ensures c.placed-y.ensures.plus c.placed-y.ensures.exact c.halved.ensures in
    let s0_is = sum_is 30 c.product.ensures c.line-s0.ensures in
    let d0_is = sum_is 30 c.residual.ensures c.line-d0.ensures in
    let h1_is = sum_is 30 c.improved.ensures c.line-h1.ensures in
    let s1_is = sum_is 30 c.improved-2.ensures c.line-s1.ensures in
    let d1_is = sum_is 30 c.residual-2.ensures c.line-d1.ensures in
    let e1_is = sum_is 30 c.residual-3.ensures c.line-e1.ensures in
    let s2_is = sum_is 24 c.corrected.ensures c.line-s2.ensures in
    let h2_is = sum_is 30 c.improved-3.ensures c.line-h2.ensures in
    sum_given 30 c.residual-4.ensures (need_e2 _ _ _ _ _ _ s _ s0_is _ d0_is _ h1_is _ s1_is _ d1_is _ e1_is _ s2_is _ h2_is)

pub invariant_of-result : goal.invariant_of-result
invariant_of-result g c =
    let s = started _ (units_of c.args.a) c.from-form.result c.from-radicand.result.bits _ _ _ (number_value c.placed-y.result) c.halved.result (g.met.S.Source.roots_close c.args.source.now) c.from-form.ensures c.from-x.ensures c.power-half.ensures c.from-radicand.result.range c.from-radicand.ensures c.root-seed.ensures c.placed-y.ensures.plus c.placed-y.ensures.exact c.halved.ensures in
    let s0_is = sum_is 30 c.product.ensures c.line-s0.ensures in
    let d0_is = sum_is 30 c.residual.ensures c.line-d0.ensures in
    let h1_is = sum_is 30 c.improved.ensures c.line-h1.ensures in
    let s1_is = sum_is 30 c.improved-2.ensures c.line-s1.ensures in
    let d1_is = sum_is 30 c.residual-2.ensures c.line-d1.ensures in
    let e1_is = sum_is 30 c.residual-3.ensures c.line-e1.ensures in
    let s2_is = sum_is 24 c.corrected.ensures c.line-s2.ensures in
    let h2_is = sum_is 30 c.improved-3.ensures c.line-h2.ensures in
    let e2_is = sum_is 30 c.residual-4.ensures c.line-e2.ensures in
    record { some = some _ _ _ _ _ _ s _ s0_is _ d0_is _ h1_is _ s1_is _ d1_is _ e1_is _ s2_is _ h2_is _ e2_is }

pub returns : goal.returns
returns g c =
    let s = started _ (units_of c.args.a) c.from-form.result c.from-radicand.result.bits _ _ _ (number_value c.placed-y.result) c.halved.result (g.met.S.Source.roots_close c.args.source.now) c.from-form.ensures c.from-x.ensures c.power-half.ensures c.from-radicand.result.range c.from-radicand.ensures c.root-seed.ensures c.placed-y.ensures.plus c.placed-y.ensures.exact c.halved.ensures in
    let s0_is = sum_is 30 c.product.ensures c.line-s0.ensures in
    let d0_is = sum_is 30 c.residual.ensures c.line-d0.ensures in
    let h1_is = sum_is 30 c.improved.ensures c.line-h1.ensures in
    let s1_is = sum_is 30 c.improved-2.ensures c.line-s1.ensures in
    let d1_is = sum_is 30 c.residual-2.ensures c.line-d1.ensures in
    let e1_is = sum_is 30 c.residual-3.ensures c.line-e1.ensures in
    let s2_is = sum_is 24 c.corrected.ensures c.line-s2.ensures in
    let h2_is = sum_is 30 c.improved-3.ensures c.line-h2.ensures in
    let e2_is = sum_is 30 c.residual-4.ensures c.line-e2.ensures in
    let side = same_side _ _ _ _ _ _ s _ s0_is _ d0_is _ h1_is _ s1_is _ d1_is _ e1_is _ s2_is _ h2_is _ e2_is in
    record {
      sheet = worked _ _ _ _ _ _ s _ s0_is _ d0_is _ h1_is _ s1_is _ d1_is _ e1_is _ s2_is _ h2_is _ e2_is;
      same_side = side;
      same_rounding = rounds_alike side;
    }
