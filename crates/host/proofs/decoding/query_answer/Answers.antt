-- `host::decoding::query_answer` meets its contract: kind by kind; the one that the last arm is left with is numbered 16 and has no field.
use Prim.Native.Nat.{ℕ, ◌≤◌}
use mathlib.Core.Bool.{Bool, cond, ◌||◌}
use mathlib.Core.List.{[], ◌∷◌}
use mathlib.Core.Path.{◌≡◌}
use native.Mathlib.Omega.{arith}
use borrow.Author.Rules.{rules}
use borrow.Author.Tests.{lt-leb}
use denote.Enum.Declared.{tag_of}
use lib.Dec.{T, eqb, leb, leb→le}
use types.Run.{OneOf}
use Rattle.protocol.specs.declared.Message.{Message}
use Rattle.protocol.specs.Each.{Each}
use Rattle.protocol.specs.Fields.{Slot}
use Rattle.protocol.specs.Kinds.{Kind, Mode, modes, find, the_table}
use Rattle.protocol.specs.Views.{view, kind_number, numbered}
use Rattle.protocol.proofs.Find.{All}
use Rattle.protocol.specs.contracts.Message as Msg
use Rattle.protocol.proofs.Views.{made, each_row, places, passes}
use Rattle.host_layout.specs.LaidOut.{numbers_of}
use Rattle.host.proofs.decoding.query_answer.Goals as goal

abbrev left : Kind → Bool
left k = leb 24 (kind_number k) || leb (kind_number k) 16

first : (n : ℕ) → (16 ≤ n) × (n ≤ 23) → T (leb 24 n || leb n 16) → n ≡ 16
first n asked t = let low = leb→le n 16 (rw (lt-leb 24 n (omega arith)) at t) in omega arith

abbrev Empty : Kind → Type 0
Empty k = (s : Each Slot k.body) → numbers_of (k.message s) ≡ cond (eqb (kind_number k) 16) (16 ∷ []) (numbers_of (k.message s))

empty : All (λ (m : Mode). All Empty m.kinds) modes
unfolding the_table view numbers_of
empty = search tt depth 60 fits 5000

is-empty : (m : Message) → (16 ≤ kind_number (view m).kind) × (kind_number (view m).kind ≤ 23) → OneOf (places left) (tag_of Msg.the_type m) → numbers_of m ≡ 16 ∷ []
unfolding the_table find numbered
is-empty m asked is = rw (made m, first _ asked (passes left (search tt depth 60 fits 5000) m is)) at (each_row Empty empty m (view m).slots)

pub returns-in-RowDescription : goal.returns-in-RowDescription
unfolding the_table view numbers_of
returns-in-RowDescription c = rw c.in-RowDescription.is c.one_list.ensures

pub returns-in-ParameterDescription : goal.returns-in-ParameterDescription
unfolding the_table view numbers_of
returns-in-ParameterDescription c = rw c.in-ParameterDescription.is c.one_list-in-ParameterDescription.ensures

pub returns-in-DataRow : goal.returns-in-DataRow
unfolding the_table view numbers_of
returns-in-DataRow c = rw c.in-DataRow.is c.one_list-in-DataRow.ensures

pub returns-in-CommandComplete : goal.returns-in-CommandComplete
unfolding the_table view numbers_of
returns-in-CommandComplete c = rw c.in-CommandComplete.is c.one_span.ensures

pub returns-in-ReadyForQuery : goal.returns-in-ReadyForQuery
unfolding the_table view numbers_of
returns-in-ReadyForQuery c = rw c.in-ReadyForQuery.is c.one_number.ensures

pub returns-in-ErrorResponse : goal.returns-in-ErrorResponse
unfolding the_table view numbers_of
returns-in-ErrorResponse c = rw c.in-ErrorResponse.is c.one_list-in-ErrorResponse.ensures

pub returns-in-NoticeResponse : goal.returns-in-NoticeResponse
unfolding the_table view numbers_of
returns-in-NoticeResponse c = rw c.in-NoticeResponse.is c.one_list-in-NoticeResponse.ensures

pub returns-in_default : goal.returns-in_default
unfolding the_table find numbered
returns-in_default c = rw (is-empty _ c.requires (search rules)) c.none.ensures
