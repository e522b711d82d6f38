-- Each goal has a context of its own, with the facts of the steps before it: so each answer names again what these gave.
use Rattle.std.proofs.Common.{arith}
use Rattle.registers.specs.Values.{number_value}
use Rattle.sheets.specs.Operands.{units_of}
use Rattle.sheets.proofs.Placing.{reciprocal_moderate}
use Rattle.sheets.proofs.Scales.{rounds_alike}
use Rattle.sheets.proofs.Stepped.{sum_given, sum_is}
use Rattle.sheets.proofs.QuotientWorked.{begun, need_e0, need_e1, need_y1, need_q1, need_r1, worked, some, same_side}
use Rattle.sheets.proofs.quotient.quotient_lines.Goals as goal

pub placed-requires : goal.placed-requires
placed-requires g c =
    let q = c.from-divisor.result in
    let seeds = g.S.Source.reciprocals c.args.source.now in
    let close = g.met.S.Source.reciprocals_close c.args.source.now q.significand.bits q.significand.range in
    let m = reciprocal_moderate q.significand.bits (seeds q.significand.bits) (number_value c.reciprocal-seed.result) q.significand.range close c.reciprocal-seed.ensures in
    (m.0, (m.1, (omega arith, q.range)))

pub line-e0-requires : goal.line-e0-requires
line-e0-requires g c =
    let s = begun _ (units_of c.args.a) (units_of c.args.b) c.from-dividend.result c.from-divisor.result _ _ _ c.reciprocal-seed.result c.placed.result c.from-dividend.ensures c.from-divisor.ensures c.from-x.ensures c.from-d.ensures c.power-one.ensures c.reciprocal-seed.ensures (g.met.S.Source.reciprocals_close c.args.source.now) c.placed.ensures.plus c.placed.ensures.exact in
    sum_given 30 c.residual.ensures (need_e0 _ _ _ _ _ _ _ s)

pub line-e1-requires : goal.line-e1-requires
line-e1-requires g c =
    let s = begun _ (units_of c.args.a) (units_of c.args.b) c.from-dividend.result c.from-divisor.result _ _ _ c.reciprocal-seed.result c.placed.result c.from-dividend.ensures c.from-divisor.ensures c.from-x.ensures c.from-d.ensures c.power-one.ensures c.reciprocal-seed.ensures (g.met.S.Source.reciprocals_close c.args.source.now) c.placed.ensures.plus c.placed.ensures.exact in
    let e0_is = sum_is 30 c.residual.ensures c.line-e0.ensures in
    sum_given 30 c.improved.ensures (need_e1 _ _ _ _ _ _ _ s _ e0_is)

pub line-y1-requires : goal.line-y1-requires
line-y1-requires g c =
    let s = begun _ (units_of c.args.a) (units_of c.args.b) c.from-dividend.result c.from-divisor.result _ _ _ c.reciprocal-seed.result c.placed.result c.from-dividend.ensures c.from-divisor.ensures c.from-x.ensures c.from-d.ensures c.power-one.ensures c.reciprocal-seed.ensures (g.met.S.Source.reciprocals_close c.args.source.now) c.placed.ensures.plus c.placed.ensures.exact in
    let e0_is = sum_is 30 c.residual.ensures c.line-e0.ensures in
    let e1_is = sum_is 30 c.improved.ensures c.line-e1.ensures in
    sum_given 30 c.improved-2.ensures (need_y1 _ _ _ _ _ _ _ s _ e0_is _ e1_is)

pub line-q1-requires : goal.line-q1-requires
line-q1-requires g c =
    let s = begun _ (units_of c.args.a) (units_of c.args.b) c.from-dividend.result c.from-divisor.result _ _ _ c.reciprocal-seed.result c.placed.result c.from-dividend.ensures c.from-divisor.ensures c.from-x.ensures c.from-d.ensures c.power-one.ensures c.reciprocal-seed.ensures (g.met.S.Source.reciprocals_close c.args.source.now) c.placed.ensures.plus c.placed.ensures.exact in
    let e0_is = sum_is 30 c.residual.ensures c.line-e0.ensures in
    let e1_is = sum_is 30 c.improved.ensures c.line-e1.ensures in
    let y1_is = sum_is 30 c.improved-2.ensures c.line-y1.ensures in
    sum_given 24 c.product.ensures (need_q1 _ _ _ _ _ _ _ s _ e0_is _ e1_is _ y1_is)

pub line-r1-requires : goal.line-r1-requires
line-r1-requires g c =
    let s = begun _ (units_of c.args.a) (units_of c.args.b) c.from-dividend.result c.from-divisor.result _ _ _ c.reciprocal-seed.result c.placed.result c.from-dividend.ensures c.from-divisor.ensures c.from-x.ensures c.from-d.ensures c.power-one.ensures c.reciprocal-seed.ensures (g.met.S.Source.reciprocals_close c.args.source.now) c.placed.ensures.plus c.placed.ensures.exact in
    let e0_is = sum_is 30 c.residual.ensures c.line-e0.ensures in
    let e1_is = sum_is 30 c.improved.ensures c.line-e1.ensures in
    let y1_is = sum_is 30 c.improved-2.ensures c.line-y1.ensures in
    let q1_is = sum_is 24 c.product.ensures c.line-q1.ensures in
    sum_given 30 c.residual-2.ensures (need_r1 _ _ _ _ _ _ _ s _ e0_is _ e1_is _ y1_is _ q1_is)

pub invariant_of-result : goal.invariant_of-result
invariant_of-result g c =
    let s = begun _ (units_of c.args.a) (units_of c.args.b) c.from-dividend.result c.from-divisor.result _ _ _ c.reciprocal-seed.result c.placed.result c.from-dividend.ensures c.from-divisor.ensures c.from-x.ensures c.from-d.ensures c.power-one.ensures c.reciprocal-seed.ensures (g.met.S.Source.reciprocals_close c.args.source.now) c.placed.ensures.plus c.placed.ensures.exact in
    let e0_is = sum_is 30 c.residual.ensures c.line-e0.ensures in
    let e1_is = sum_is 30 c.improved.ensures c.line-e1.ensures in
    let y1_is = sum_is 30 c.improved-2.ensures c.line-y1.ensures in
    let q1_is = sum_is 24 c.product.ensures c.line-q1.ensures in
    let r1_is = sum_is 30 c.residual-2.ensures c.line-r1.ensures in
    record { some = some _ _ _ _ _ _ _ s _ e0_is _ e1_is _ y1_is _ q1_is _ r1_is }

pub returns : goal.returns
returns g c =
    let s = begun _ (units_of c.args.a) (units_of c.args.b) c.from-dividend.result c.from-divisor.result _ _ _ c.reciprocal-seed.result c.placed.result c.from-dividend.ensures c.from-divisor.ensures c.from-x.ensures c.from-d.ensures c.power-one.ensures c.reciprocal-seed.ensures (g.met.S.Source.reciprocals_close c.args.source.now) c.placed.ensures.plus c.placed.ensures.exact in
    let e0_is = sum_is 30 c.residual.ensures c.line-e0.ensures in
    let e1_is = sum_is 30 c.improved.ensures c.line-e1.ensures in
    let y1_is = sum_is 30 c.improved-2.ensures c.line-y1.ensures in
    let q1_is = sum_is 24 c.product.ensures c.line-q1.ensures in
    let r1_is = sum_is 30 c.residual-2.ensures c.line-r1.ensures in
    let side = same_side _ _ _ _ _ _ _ s _ e0_is _ e1_is _ y1_is _ q1_is _ r1_is in
    record {
      sheet = worked _ _ _ _ _ _ _ s _ e0_is _ e1_is _ y1_is _ q1_is _ r1_is;
      same_side = side;
      same_rounding = rounds_alike side;
    }
