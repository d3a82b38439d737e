-- Lines one after the other.
use Prim.Native.Nat.{ℕ, zero, suc, ◌+◌, ◌-◌, ◌≤◌}
use mathlib.Core.List.{List, ◌++◌}
use mathlib.Core.Path.{◌≡◌, refl, ap, sym, ◌∙◌}
use native.Mathlib.Omega.{arith}
use lib.ListN.{length, length-append}
use Rattle.listing.specs.declared.Left.{Left}
use Rattle.listing.specs.declared.Filled.{Filled}
use Rattle.listing.specs.Listing.{Lines, line_of, lines_of, Lined, Fills}
use Rattle.writers.specs.Writing.{write}
use Rattle.writers.proofs.Laws.{turn}

-- a line, and then the others
abbrev pub before : Lines → Lines → Lines
before l t = record { text = l.text ++ t.text; left = t.left }

pub lines_more : (k : ℕ) (input : List ℕ) (left : Left) → 1 ≤ k → lines_of k input left ≡ before (line_of input left) (lines_of (k - 1) input (line_of input left).left)
unfolding lines_of
lines_more zero input left h = absurd (omega arith)
lines_more (suc k) input left h =
    let e : suc k - 1 ≡ k = omega arith in
    rw e refl

-- what a loop has left: these many lines from p on come to all the lines from the start on
pub record Rest (input : List ℕ) (k : ℕ) (left : Left) (d : List ℕ) (p : ℕ) (room : List ℕ) (all : Lines) : Type 0 where
  pub bytes : write d p (lines_of k input left).text ≡ write room 0 all.text
  pub count : p + length (lines_of k input left).text ≡ length all.text
  pub after : (lines_of k input left).left ≡ all.left

pub next : {input : List ℕ} {k : ℕ} {left : Left} {d : List ℕ} {p : ℕ} {room : List ℕ} {all : Lines} {out : List ℕ} {r : Filled} → 1 ≤ k → Rest input k left d p room all → Lined (line_of input left) d p out r → Rest input (k - 1) r.left out r.count room all
next {input} {k} {left} {d} {p} {room} {all} {out} {r} h q l =
    let e = lines_more k input left h in
    let t = lines_of (k - 1) input (line_of input left).left in
    rw l.left (record {
      bytes = turn t.text l.wrote (ap (λ (x : Lines). write d p x.text) (sym e) ∙ q.bytes);
      count = omega (arith, l.wrote.place, length-append (line_of input left).text t.text, ap (λ (x : Lines). length x.text) e, q.count);
      after = ap (λ (x : Lines). x.left) (sym e) ∙ q.after;
    })

none_left : {input : List ℕ} {k : ℕ} {left : Left} {d : List ℕ} {p : ℕ} {room : List ℕ} {all : Lines} → k ≡ 0 → Rest input k left d p room all → Rest input 0 left d p room all
none_left e q = rw e at q

-- no line is left
pub last : {input : List ℕ} {k : ℕ} {left : Left} {d : List ℕ} {p : ℕ} {room : List ℕ} {all : Lines} → k ≡ 0 → Rest input k left d p room all → Fills all room d (record { count = p; left = left })
unfolding lines_of
last e r =
    let q = none_left e r in
    record { bytes = q.bytes; count = omega (arith, q.count); left = q.after }
