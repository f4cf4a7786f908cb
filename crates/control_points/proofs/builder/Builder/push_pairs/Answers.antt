use Rattle.std.proofs.Common.{◌≡◌, ◌<◌, ◌≤◌, ◌++◌, [], length, drop, sym, ap, ◌∙◌, arith, length-append, length-drop}
use Rattle.std.proofs.lemmas.List.{get_or-drop}
use Rattle.control_points.specs.Building.{Building}
use Rattle.control_points.specs.Emitting.{copies_named}
use Rattle.spl_core.specs.Graph.{pairs_in}
use Rattle.control_points.proofs.Stretching.{same_then}
use Rattle.control_points.proofs.Lengthening.{two_longer}
use Rattle.control_points.proofs.Storing.{adds_nothing, span_stands}
use Rattle.control_points.proofs.Starting.{flat, flat_pairs, flat_even, pairs_more, all_pairs}
use Rattle.control_points.proofs.builder.Builder.push_pairs.Goals as goal

pub loop-k-preserved : goal.loop-k-preserved
loop-k-preserved c =
    let sp = c.args.dims.now in
    let xs = drop c.args.from c.args.names.now in
    let lt : c.loop-k.k < length xs = omega (arith, c.loop-k-test.true, c.len.ensures, c.requires, length-drop c.args.from c.args.names.now) in
    record {
      dims = pairs_more sp xs c.loop-k.k c.dimension.result c.declaration.result c.name-name.result.now c.args.self.now.parts.dims c.loop-k.self.parts.dims c.push_dim.new.self.parts.dims c.push_dim-in-loop-k.new.self.parts.dims lt
          (get_or-drop c.args.from c.args.names.now c.loop-k.k [] ∙ sym c.name-name.ensures) c.dimension.ensures c.declaration.ensures c.loop-k.invariant.dims c.in_ok-push_dim.ensures.pushed c.in_ok-push_dim-2.ensures.pushed;
      sizes = two_longer c.loop-k.k c.args.self.now c.loop-k.self c.push_dim.new.self c.push_dim-in-loop-k.new.self c.loop-k.invariant.sizes c.in_ok-push_dim.ensures.sizes c.in_ok-push_dim-2.ensures.sizes;
      same = same_then c.args.self.now c.push_dim.new.self c.push_dim-in-loop-k.new.self (same_then c.args.self.now c.loop-k.self c.push_dim.new.self c.loop-k.invariant.same c.in_ok-push_dim.ensures.same) c.in_ok-push_dim-2.ensures.same;
      adds = adds_nothing c.args.self.now.points c.args.self.now c.push_dim.new.self c.push_dim-in-loop-k.new.self
          (adds_nothing c.args.self.now.points c.args.self.now c.loop-k.self c.push_dim.new.self c.loop-k.invariant.adds c.in_ok-push_dim.ensures.adds) c.in_ok-push_dim-2.ensures.adds;
    }

pub returns-clause-whole : goal.returns-clause-whole
returns-clause-whole c =
    let ds = c.args.self.now.parts.dims in
    let es = c.loop-k.self.parts.dims in
    let xs = drop c.args.from c.args.names.now in
    let ks = copies_named c.args.dims.now xs in
    let le : length xs ≤ c.loop-k.k = omega (arith, c.loop-k-test.false, c.len.ensures, c.requires, length-drop c.args.from c.args.names.now) in
    let all : es ≡ ds ++ flat ks = all_pairs c.args.dims.now xs c.loop-k.k ds es le c.loop-k.invariant.dims in
    let first : c.len-first.result ≡ length ds = omega (arith, c.len-first.ensures, c.self.inside.dims.ok.0, ap (λ (b : Building). length b.parts.dims) c.self.view_is) in
    let second : c.len-2.result ≡ length es = omega (arith, c.len-2.ensures, c.self-2.inside.dims.ok.0, ap (λ (b : Building). length b.parts.dims) c.self-2.view_is) in
    omega (arith, first, second, ap length all, length-append ds (flat ks), flat_even ks)

pub returns-clause-stands : goal.returns-clause-stands
returns-clause-stands c =
    let ds = c.args.self.now.parts.dims in
    let es = c.loop-k.self.parts.dims in
    let xs = drop c.args.from c.args.names.now in
    let ks = copies_named c.args.dims.now xs in
    let le : length xs ≤ c.loop-k.k = omega (arith, c.loop-k-test.false, c.len.ensures, c.requires, length-drop c.args.from c.args.names.now) in
    let all : es ≡ ds ++ flat ks = all_pairs c.args.dims.now xs c.loop-k.k ds es le c.loop-k.invariant.dims in
    let first : c.len-first.result ≡ length ds = omega (arith, c.len-first.ensures, c.self.inside.dims.ok.0, ap (λ (b : Building). length b.parts.dims) c.self.view_is) in
    let second : c.len-2.result ≡ length es = omega (arith, c.len-2.ensures, c.self-2.inside.dims.ok.0, ap (λ (b : Building). length b.parts.dims) c.self-2.view_is) in
    ap pairs_in (span_stands ds (flat ks) es c.len-first.result _ first (omega (arith, first, second, ap length all, length-append ds (flat ks))) all) ∙ flat_pairs ks
