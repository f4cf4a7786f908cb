-- What each single replacement keeps, the rounds keep: P of the cells, where Q holds of the points that are visited.
use Rattle.std.proofs.Common.{ℕ, zero, suc, ◌+◌, Bool, true, false, cond, List, [], ◌∷◌, arith}
use Rattle.std.specs.List.{All}
use Rattle.std.proofs.lemmas.List.Elements.{All-tail}
use Rattle.rounds.specs.Rounds.{Cell, visit, visits, changing, ascended_in, ascent, repeated}

pub kept-visits : (P : List Cell → Type 0) (next : ℕ → List Cell → Cell) (Q : ℕ → Type 0) → ((p : ℕ) (a : List Cell) → Q p → P a → P (visit next p a)) → (order : List ℕ) (cells : List Cell) → All Q order → P cells → P (visits next order cells)
kept-visits P next Q keeps [] cells within h = h
kept-visits P next Q keeps (p ∷ order) cells within h =
    kept-visits P next Q keeps order (visit next p cells) (All-tail Q p order within) (keeps p cells (within 0 p (omega arith)) h)

pub kept-ascent : (P : List Cell → Type 0) (next : ℕ → List Cell → Cell) (Q : ℕ → Type 0) → ((p : ℕ) (a : List Cell) → Q p → P a → P (visit next p a)) → (order : List ℕ) → All Q order
    → (fuel done : ℕ) (cells : List Cell) → P cells → P (ascent next order fuel done cells).cells
unfolding ascent
kept-ascent P next Q keeps order within zero done cells h = h
kept-ascent P next Q keeps order within (suc fuel) done cells h =
    by (changing next order cells) (kept-ascent P next Q keeps order within fuel (done + 1) (visits next order cells) one)
  where
    one : P (visits next order cells)
    one = kept-visits P next Q keeps order cells within h

    by : (b : Bool) → P (ascent next order fuel (done + 1) (visits next order cells)).cells
        → P (cond b (ascent next order fuel (done + 1) (visits next order cells)) (ascended_in (visits next order cells) (done + 1))).cells
    by true more = more
    by false more = one

pub kept-repeated : (P : List Cell → Type 0) (next : ℕ → List Cell → Cell) (Q : ℕ → Type 0) → ((p : ℕ) (a : List Cell) → Q p → P a → P (visit next p a)) → (order : List ℕ) → All Q order
    → (k : ℕ) (cells : List Cell) → P cells → P (repeated next order k cells)
unfolding repeated
kept-repeated P next Q keeps order within zero cells h = h
kept-repeated P next Q keeps order within (suc k) cells h =
    kept-repeated P next Q keeps order within k (visits next order cells) (kept-visits P next Q keeps order cells within h)
