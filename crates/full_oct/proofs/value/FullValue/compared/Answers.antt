use Rattle.spl_core.specs.declared.parts.Cmp.TheVariants as cmp
use Rattle.spl_core.specs.Graph.{expr_at, exprs_in}
use Rattle.full_oct.proofs.Testing.{compared-is}
use Rattle.full_oct.proofs.value.FullValue.compared.Goals as goal

pub returns-in_ok-v-in-Eq : goal.returns-in_ok-v-in-Eq
returns-in_ok-v-in-Eq c =
    let a = expr_at (exprs_in c.args.core.now) c.args.a in
    let b = expr_at (exprs_in c.args.core.now) c.args.b in
    compared-is cmp.Eq c.asked.result c.args.relation c.args.wanted a b c.args.self.now c.in_ok-v-in-Eq.v c.in-Eq.is c.asked.ensures c.in_ok-v-in-Eq.ensures

pub returns-in_ok-v-in-Ne : goal.returns-in_ok-v-in-Ne
returns-in_ok-v-in-Ne c =
    let a = expr_at (exprs_in c.args.core.now) c.args.a in
    let b = expr_at (exprs_in c.args.core.now) c.args.b in
    compared-is cmp.Ne c.asked.result c.args.relation c.args.wanted a b c.args.self.now c.in_ok-v-in-Ne.v c.in-Ne.is c.asked.ensures c.in_ok-v-in-Ne.ensures

pub returns-in_ok-v-in-Lt : goal.returns-in_ok-v-in-Lt
returns-in_ok-v-in-Lt c =
    let a = expr_at (exprs_in c.args.core.now) c.args.a in
    let b = expr_at (exprs_in c.args.core.now) c.args.b in
    compared-is cmp.Lt c.asked.result c.args.relation c.args.wanted a b c.args.self.now c.in_ok-v-in-Lt.v c.in-Lt.is c.asked.ensures c.in_ok-v-in-Lt.ensures

pub returns-in_ok-v-in-Le : goal.returns-in_ok-v-in-Le
returns-in_ok-v-in-Le c =
    let a = expr_at (exprs_in c.args.core.now) c.args.a in
    let b = expr_at (exprs_in c.args.core.now) c.args.b in
    compared-is cmp.Le c.asked.result c.args.relation c.args.wanted a b c.args.self.now c.in_ok-v-in-Le.v c.in-Le.is c.asked.ensures c.in_ok-v-in-Le.ensures

pub returns-in_ok-v-in-Gt : goal.returns-in_ok-v-in-Gt
returns-in_ok-v-in-Gt c =
    let a = expr_at (exprs_in c.args.core.now) c.args.a in
    let b = expr_at (exprs_in c.args.core.now) c.args.b in
    compared-is cmp.Gt c.asked.result c.args.relation c.args.wanted a b c.args.self.now c.in_ok-v-in-Gt.v c.in-Gt.is c.asked.ensures c.in_ok-v-in-Gt.ensures

pub returns-in_ok-v-in-Ge : goal.returns-in_ok-v-in-Ge
returns-in_ok-v-in-Ge c =
    let a = expr_at (exprs_in c.args.core.now) c.args.a in
    let b = expr_at (exprs_in c.args.core.now) c.args.b in
    compared-is cmp.Ge c.asked.result c.args.relation c.args.wanted a b c.args.self.now c.in_ok-v-in-Ge.v c.in-Ge.is c.asked.ensures c.in_ok-v-in-Ge.ensures
