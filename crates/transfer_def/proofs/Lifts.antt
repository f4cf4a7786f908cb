-- What holds of an operation on matrices holds of it on values, where Bottom stays Bottom.
use Rattle.std.proofs.Common.{ℕ, List, Option, Some, None, ℤ}
use Rattle.std.specs.Option.{option_map, option_and_then}
use Rattle.oct_def.specs.Table.{Matrix}
use Rattle.oct_def.specs.Matrix.{IsEvenMatrix, Meets, MeetsValue}
use Rattle.oct_def.specs.Octagon.{IsValueOver}

pub meets-and_then : (s t : List ℤ) (go : Matrix → Option Matrix) (v : Option Matrix) → ((m : Matrix) → Meets s m → MeetsValue t (go m)) → MeetsValue s v → MeetsValue t (option_and_then go v)
meets-and_then s t go None f h = absurd h
meets-and_then s t go (Some m) f h = f m h

pub meets-mapped : (s t : List ℤ) (go : Matrix → Matrix) (v : Option Matrix) → ((m : Matrix) → Meets s m → Meets t (go m)) → MeetsValue s v → MeetsValue t (option_map go v)
meets-mapped s t go None f h = absurd h
meets-mapped s t go (Some m) f h = f m h

pub value-and_then : (n k : ℕ) (go : Matrix → Option Matrix) (v : Option Matrix) → ((m : Matrix) → IsEvenMatrix n m → IsValueOver k (go m)) → IsValueOver n v → IsValueOver k (option_and_then go v)
value-and_then n k go None f h = tt
value-and_then n k go (Some m) f h = f m h

pub value-mapped : (n k : ℕ) (go : Matrix → Matrix) (v : Option Matrix) → ((m : Matrix) → IsEvenMatrix n m → IsEvenMatrix k (go m)) → IsValueOver n v → IsValueOver k (option_map go v)
value-mapped n k go None f h = tt
value-mapped n k go (Some m) f h = f m h
