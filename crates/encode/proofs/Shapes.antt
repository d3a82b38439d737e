-- A frame is the same for all kinds of one shape: the name, the number and the record that is read of it do not matter.
use Prim.Native.Nat.{ℕ}
use Prim.Native.String.{String}
use mathlib.Core.List.{List}
use mathlib.Core.Option.{Option, some, none}
use mathlib.Core.Path.{◌≡◌, refl, ◌∙◌}
use Rattle.protocol.specs.Encoded as N
use Rattle.protocol.specs.Encoded.{Encoded}
use Rattle.protocol.specs.declared.Message.{Message}
use Rattle.protocol.specs.Each.{Each, able_each}
use Rattle.protocol.specs.Encode.{encoded_by, written_by, Encodes}
use Rattle.protocol.specs.Fields.{Field, Content, Slot, able}
use Rattle.protocol.specs.Kinds.{Kind, Mode}
use Rattle.protocol.specs.Rules.{rules_of}
use Rattle.protocol.specs.WellFormed.{body_bytes, frame}

abbrev shape : String → List ℕ → ℕ → ℕ → ℕ → (body : List Field) → (Each Slot body → Message) → Kind
shape name numbers tag least limit body message = record {
  name = name;
  tag = tag;
  smallest = least;
  limit = limit;
  numbers = numbers;
  body = body;
  message = message;
}

-- in any mode of such frames in which the content can be written as well
pub as_kind : {m : Mode} {a b : String} {xs ys : List ℕ} {tag least limit : ℕ} {body : List Field} {any : Each Slot body → Message} {c : Each Content body} {out left : List ℕ} {r : Encoded}
    → Encodes m (shape a xs tag least limit body any) (some c) out r left → (m' : Mode) (message : Each Slot body → Message) → m'.envelope ≡ m.envelope
    → able_each (able (rules_of m'.mode)) body c ≡ able_each (able (rules_of m.mode)) body c
    → Encodes m' (shape b ys tag least limit body message) (some c) out r left
unfolding encoded_by written_by body_bytes frame
as_kind {m} {a} {b} {xs} {ys} {tag} {least} {limit} {body} {any} {c} {out} {left} {r} e m' message is same =
    record { answer = e.answer ∙ rw (is, same) refl; output = e.output ∙ by r }
  where
    by : (r : Encoded) → written_by m (shape a xs tag least limit body any) (some c) r out ≡ written_by m' (shape b ys tag least limit body message) (some c) r out
    by (N.Done n) = rw is refl
    by (N.Refused number place) = refl

-- in the mode itself, also where the content may be none
pub as_kind_given : {m : Mode} {a b : String} {xs ys : List ℕ} {tag least limit : ℕ} {body : List Field} {any : Each Slot body → Message} {given : Option (Each Content body)} {out left : List ℕ} {r : Encoded}
    → Encodes m (shape a xs tag least limit body any) given out r left → (message : Each Slot body → Message)
    → Encodes m (shape b ys tag least limit body message) given out r left
unfolding encoded_by written_by
as_kind_given {m} {a} {b} {xs} {ys} {tag} {least} {limit} {body} {any} {given} {out} {left} {r} e message = by given e
  where
    by : (given : Option (Each Content body)) → Encodes m (shape a xs tag least limit body any) given out r left → Encodes m (shape b ys tag least limit body message) given out r left
    by none e = record { answer = e.answer; output = e.output }
    by (some c) e = as_kind e m message refl refl
