-- Names as texts.
use Rattle.std.specs.Prelude.{ℕ, List, map, Vec}
use Rattle.std.specs.declared.alloc.Global.{Global}

-- the bytes of each
abbrev pub texts : List (Vec ℕ Global) → List (List ℕ)
texts names = map (λ (name : Vec ℕ Global). name.items) names
