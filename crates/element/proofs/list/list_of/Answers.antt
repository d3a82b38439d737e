-- `element::list::list_of` meets its contract: an arm's kind has this one list, and the kinds of the last arm have none.
use Prim.Native.Nat.{ℕ, zero, suc}
use mathlib.Core.Bool.{Bool, true, false}
use mathlib.Core.List.{List, [], ◌∷◌}
use mathlib.Core.Option.{Option, none}
use mathlib.Core.Path.{◌≡◌, refl, ap, sym, ◌∙◌}
use lib.Dec.{T}
use Rattle.protocol.specs.declared.List.{List as ListSlot}
use Rattle.protocol.specs.declared.Message.{Message}
use Rattle.protocol.specs.declared.Message.TheVariants as M
use Rattle.protocol.specs.declared.response.SslResponse.{SslResponse}
use Rattle.protocol.specs.declared.response.SslResponse.TheVariants as S
use Rattle.protocol.specs.declared.response.GssEncResponse.{GssEncResponse}
use Rattle.protocol.specs.declared.response.GssEncResponse.TheVariants as E
use Rattle.protocol.specs.Each.{Each}
use Rattle.protocol.specs.Elements.{Listed, list_in, list_of}
use Rattle.protocol.specs.Fields.{Item, signed_count, Field, one, counted, ended, Slot}
use Rattle.protocol.specs.Kinds.{the_table}
use Rattle.protocol.specs.Views.{view}
use Rattle.element.specs.OneList.{only}
use Rattle.element.proofs.list.list_of.Goals as goal

counted-only : (i : Item) (x : ListSlot) (l : ℕ) → only i x l ≡ list_in (counted signed_count i ∷ []) l (x, tt)
unfolding only list_in
counted-only i x zero = refl
counted-only i x (suc l) = refl

ended-only : (i : Item) (x : ListSlot) (l : ℕ) → only i x l ≡ list_in (ended i ∷ []) l (x, tt)
unfolding only list_in
ended-only i x zero = refl
ended-only i x (suc l) = refl

abbrev no_list : List Field → Bool
no_list [] = true
no_list (one a ∷ xs) = no_list xs
no_list (counted k i ∷ xs) = false
no_list (ended i ∷ xs) = false

none_in : (xs : List Field) (l : ℕ) (s : Each Slot xs) → T (no_list xs) → none ≡ list_in xs l s
unfolding list_in
none_in [] l s h = refl
none_in (one a ∷ xs) l s h = none_in xs l s.1 h
none_in (counted k i ∷ xs) l s h = absurd h
none_in (ended i ∷ xs) l s h = absurd h

arm : {m k : Message} {x y : Option Listed} (l : ℕ) → m ≡ k → x ≡ y → y ≡ list_of k l → x ≡ list_of m l
arm l e h is = h ∙ is ∙ ap (λ (m : Message). list_of m l) (sym e)

ssl_none : (x : SslResponse) (l : ℕ) → none ≡ list_of (M.SslResponse x) l
unfolding view list_of list_in the_table
ssl_none S.Accept l = refl
ssl_none S.Refuse l = refl

gss_none : (x : GssEncResponse) (l : ℕ) → none ≡ list_of (M.GssEncResponse x) l
unfolding view list_of list_in the_table
gss_none E.Accept l = refl
gss_none E.Refuse l = refl

no_list_of : (m : Message) (l : ℕ)
    → ((r : _) → m ≡ M.Parse r → ⊥)
    → ((r : _) → m ≡ M.Bind r → ⊥)
    → ((r : _) → m ≡ M.RowDescription r → ⊥)
    → ((r : _) → m ≡ M.ParameterDescription r → ⊥)
    → ((r : _) → m ≡ M.DataRow r → ⊥)
    → ((r : _) → m ≡ M.ErrorResponse r → ⊥)
    → ((r : _) → m ≡ M.NoticeResponse r → ⊥)
    → ((r : _) → m ≡ M.CopyInResponse r → ⊥)
    → ((r : _) → m ≡ M.CopyOutResponse r → ⊥)
    → ((r : _) → m ≡ M.CopyBothResponse r → ⊥)
    → ((r : _) → m ≡ M.Startup r → ⊥)
    → none ≡ list_of m l
unfolding view list_of list_in the_table
no_list_of (M.Parse r) l a b c d e f g h i j k = absurd (a r refl)
no_list_of (M.Bind r) l a b c d e f g h i j k = absurd (b r refl)
no_list_of (M.RowDescription r) l a b c d e f g h i j k = absurd (c r refl)
no_list_of (M.ParameterDescription r) l a b c d e f g h i j k = absurd (d r refl)
no_list_of (M.DataRow r) l a b c d e f g h i j k = absurd (e r refl)
no_list_of (M.ErrorResponse r) l a b c d e f g h i j k = absurd (f r refl)
no_list_of (M.NoticeResponse r) l a b c d e f g h i j k = absurd (g r refl)
no_list_of (M.CopyInResponse r) l a b c d e f g h i j k = absurd (h r refl)
no_list_of (M.CopyOutResponse r) l a b c d e f g h i j k = absurd (i r refl)
no_list_of (M.CopyBothResponse r) l a b c d e f g h i j k = absurd (j r refl)
no_list_of (M.Startup r) l a b c d e f g h i j k = absurd (k r refl)
no_list_of (M.SslResponse x) l a b c d e f g h i j k = ssl_none x l
no_list_of (M.GssEncResponse x) l a b c d e f g h i j k = gss_none x l
no_list_of m l a b c d e f g h i j k = refl

pub returns-in-Parse : goal.returns-in-Parse
unfolding the_table view list_of list_in
returns-in-Parse c = arm _ c.in-Parse.is c.only.ensures (counted-only _ _ _)

pub returns-in-Bind : goal.returns-in-Bind
unfolding the_table view list_of list_in
returns-in-Bind c = arm _ c.in-Bind.is c.bind_list.ensures refl

pub returns-in-RowDescription : goal.returns-in-RowDescription
unfolding the_table view list_of list_in
returns-in-RowDescription c = arm _ c.in-RowDescription.is c.only-in-RowDescription.ensures (counted-only _ _ _)

pub returns-in-ParameterDescription : goal.returns-in-ParameterDescription
unfolding the_table view list_of list_in
returns-in-ParameterDescription c = arm _ c.in-ParameterDescription.is c.only-in-ParameterDescription.ensures (counted-only _ _ _)

pub returns-in-DataRow : goal.returns-in-DataRow
unfolding the_table view list_of list_in
returns-in-DataRow c = arm _ c.in-DataRow.is c.only-in-DataRow.ensures (counted-only _ _ _)

pub returns-in-ErrorResponse : goal.returns-in-ErrorResponse
unfolding the_table view list_of list_in
returns-in-ErrorResponse c = arm _ c.in-ErrorResponse.is c.only-in-ErrorResponse.ensures (ended-only _ _ _)

pub returns-in-NoticeResponse : goal.returns-in-NoticeResponse
unfolding the_table view list_of list_in
returns-in-NoticeResponse c = arm _ c.in-NoticeResponse.is c.only-in-NoticeResponse.ensures (ended-only _ _ _)

pub returns-in-CopyInResponse : goal.returns-in-CopyInResponse
unfolding the_table view list_of list_in
returns-in-CopyInResponse c = arm _ c.in-CopyInResponse.is c.only-in-CopyInResponse.ensures (counted-only _ _ _)

pub returns-in-CopyOutResponse : goal.returns-in-CopyOutResponse
unfolding the_table view list_of list_in
returns-in-CopyOutResponse c = arm _ c.in-CopyOutResponse.is c.only-in-CopyOutResponse.ensures (counted-only _ _ _)

pub returns-in-CopyBothResponse : goal.returns-in-CopyBothResponse
unfolding the_table view list_of list_in
returns-in-CopyBothResponse c = arm _ c.in-CopyBothResponse.is c.only-in-CopyBothResponse.ensures (counted-only _ _ _)

pub returns-in-Startup : goal.returns-in-Startup
unfolding the_table view list_of list_in
returns-in-Startup c = arm _ c.in-Startup.is c.only-in-Startup.ensures (ended-only _ _ _)

pub returns-in_default : goal.returns-in_default
returns-in_default c =
    let a = c.in_default in
    no_list_of _ _ a.not-Parse a.not-Bind a.not-RowDescription a.not-ParameterDescription a.not-DataRow a.not-ErrorResponse a.not-NoticeResponse a.not-CopyInResponse a.not-CopyOutResponse a.not-CopyBothResponse a.not-Startup
