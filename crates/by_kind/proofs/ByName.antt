-- What an encoder wrote comes back under the names of its arguments. One law carries the round trip of a content to whatever is to be named, one carries it
-- to a list, and then each kind says which field of its content has which name.
use Prim.Native.Nat.{ℕ, zero, suc, ◌+◌}
use mathlib.Core.List.{List, [], ◌∷◌, ◌++◌}
use mathlib.Core.Option.{Option, some, none, map}
use mathlib.Core.Path.{◌≡◌, refl, ◌∙◌, subst}
use native.Mathlib.Omega.{arith}
use lib.IntN.{ℤ}
use lib.ListN.{length, take, length-map}
use Rattle.protocol.specs.declared.List.{List as ListSlot}
use Rattle.protocol.specs.declared.Message.TheVariants as M
use Rattle.protocol.specs.declared.data.FieldDescription.{FieldDescription}
use Rattle.protocol.specs.declared.response.GssEncResponse.TheVariants as Gss
use Rattle.protocol.specs.declared.response.GssEncResponse.{GssEncResponse}
use Rattle.protocol.specs.declared.response.SslResponse.TheVariants as Ssl
use Rattle.protocol.specs.declared.response.SslResponse.{SslResponse}
use Rattle.protocol.specs.Each.{HoldsEach, slots_of_each}
use Rattle.protocol.specs.Encode.{items, values_given, error_fields_given, pairs_given, row_fields_given, ssl_kind, gss_kind}
use Rattle.protocol.specs.Fields.{AtomInRange, atom_slot, value_slot, Item, ItemContent, item_bytes, item_slots, InRange, bytes, slot}
use Rattle.protocol.specs.Found.{Found}
use Rattle.protocol.specs.Kinds as K
use Rattle.protocol.specs.Kinds.{Kind, oid, format, nullable, row_field, error_field, pair, value_element}
use Rattle.protocol.specs.WellFormed.{Contents, AllInRange, body_start, record_of}
use Rattle.protocol.specs.Kinds.{the_table}
use Rattle.protocol.proofs.Basics.{zero_one}
use Rattle.encode.specs.Given as G
use Rattle.laws.specs.Arguments.{nth}
use Rattle.by_kind.specs.ByName.{Back, ListIs, Oids, Formats, ValueIs, Values, RowFields, ErrorFields, Pairs, the_codec, ComesBack, Bare, ByName}
use Rattle.laws.specs.EncodeStatements.{the_encoder}
use Rattle.laws.specs.Items.{item_from, found, AtomsPlaced, IsItem, Answers}
use Rattle.laws.specs.Places.{AtomPlaced, ValuePlaced, FieldPlaced, FieldsPlaced}
use Rattle.laws.specs.Statements.{the_element_call}
use Rattle.laws.proofs.Arguments.{in_range_lem, values, error_fields_lem, pairs, row_fields_lem, number_items}
use Rattle.laws.proofs.Elements.{no_item}
use Rattle.laws.proofs.Encoding.{exactly, round_trip}

-- ---- a content comes back

-- of a body that starts at `start`
record ContentBack (k : Kind) (c : Contents k) (b : Back) : Type 0 where
  start : ℕ
  message : b.message ≡ k.message (slots_of_each bytes slot k.body start c)
  placed : FieldsPlaced b.bytes k.body start (slots_of_each bytes slot k.body start c) c
  elements : (l i : ℕ) → Answers b.bytes (found k.body start c l i) (b.element l i)

abbrev Comes : (k : Kind) → Option (Contents k) → (R : Type 0) → (Back → R → Type 0) → Type 0
Comes k given R Named = ComesBack the_codec k given R Named

module _ (k : Kind) {R : Type 0} {Named : Back → R → Type 0} where
  comes_back : (given : Option (Contents k)) → ((c : Contents k) → given ≡ some c → AllInRange k c) → ((c : Contents k) (b : Back) → given ≡ some c → ContentBack k c b → (r : R) × Named b r) → Comes k given R Named
  unfolding record_of
  comes_back given range named = record {
    comes = λ m out t n i j e rules reads i2 is j2.
        let given_is = (((exactly m k given out).done n).0 e).0.0 in
        let c = given_is.0 in
        let q = given_is.1 in
        let d = round_trip m k c out t n i j (range c q) (rw q at e) rules reads i2 is j2 in
        let s = take n (the_encoder m k (some c) out).output ++ t in
        let b : Back = record { bytes = s; message = record_of reads.envelope k c; element = the_element_call rules s } in
        let x = named c b q (record { start = body_start reads.envelope; message = refl; placed = d.placed; elements = d.elements }) in
        rw q (b.message, x.0, d.decoded, x.1);
  }

  -- arguments that are a content
  of_content : (c : Contents k) → AllInRange k c → ((b : Back) → ContentBack k c b → (r : R) × Named b r) → Comes k (some c) R Named
  of_content c range named =
      comes_back (some c)
      (λ x e. let q : c ≡ x = cc in subst (AllInRange k) q range)
      (λ x b e h. let q : x ≡ c = cc in named b (subst (λ (y : Contents k). ContentBack k y b) q h))

  -- arguments of which a list may be none
  of_made : {A : Type 0} (make : A → Contents k) (o : Option A) → ((a : A) → o ≡ some a → AllInRange k (make a)) → ((a : A) (b : Back) → o ≡ some a → ContentBack k (make a) b → (r : R) × Named b r) → Comes k (map make o) R Named
  of_made make none range named = comes_back none (λ x e. absurd (none-some e)) (λ x b e h. absurd (none-some e))
    where
      none-some : {A : Type 0} {a : A} → ◌≡◌ {A = Option A} none (some a) → ⊥
      none-some e = zero_one cc
  of_made make (some a) range named = of_content (make a) (range a refl) (λ b h. named a b refl h)

-- ---- a list comes back

-- an item that is there is found
item_there : (item : Item) (p : ℕ) (cs : List (ItemContent item)) (n : ℕ) (c : ItemContent item) → nth cs n ≡ some c → (q : ℕ) × (item_from item p cs n ≡ some (record { item = item; place = q; content = c }))
unfolding nth item_from
item_there item p [] n c e = absurd (zero_one cc)
item_there item p (x ∷ cs) zero c e = let q : x ≡ c = cc in (p, rw q refl)
item_there item p (x ∷ cs) (suc n) c e = item_there item (p + length (item_bytes item x)) cs n c e

module _ (b : Back) (l p : ℕ) (list : ListSlot) (item : Item) (cs : List (ItemContent item)) (many : list.count ≡ length cs) (calls : (i : ℕ) → Answers b.bytes (item_from item p cs i) (b.element l i)) where
  -- item i, of which the content is known
  abbrev ItemAt : ℕ → Type 0
  ItemAt i = (c : ItemContent item) → nth cs i ≡ some c → (q : ℕ) × IsItem b.bytes (record { item = item; place = q; content = c }) (b.element l i)

  item_at : (i : ℕ) → ItemAt i
  item_at i c e =
      let f = item_there item p cs i c e in
      (f.0, rw f.1 at (calls i))

  list_back : {A : Type 0} (given : List A) (Is : ℕ → A → Found → Type 0) → length cs ≡ length given → ((i : ℕ) (x : A) → nth given i ≡ some x → ItemAt i → Is i x (b.element l i)) → ListIs b l list given Is
  list_back given Is same named = record {
    count = many ∙ same;
    element = λ i x e. named i x e (item_at i);
    past = λ i h. rw (no_item item p cs i (omega (arith, same))) at (calls i);
  }

module _ (b : Back) (l p : ℕ) (list : ListSlot) where
  oids : (xs : List ℕ) → list.count ≡ length (items xs) → ((i : ℕ) → Answers b.bytes (item_from oid p (items xs) i) (b.element l i)) → Oids b l list xs
  unfolding item_slots slots_of_each atom_slot
  oids xs many calls = list_back b l p list oid (items xs) many calls xs _ (length-map xs _) (λ i x e at. (at (x, tt) (number_items ℕ xs i x e)).1.is)

  formats : (zs : List ℤ) → list.count ≡ length (items zs) → ((i : ℕ) → Answers b.bytes (item_from format p (items zs) i) (b.element l i)) → Formats b l list zs
  unfolding item_slots slots_of_each atom_slot
  formats zs many calls = list_back b l p list format (items zs) many calls zs _ (length-map zs _) (λ i z e at. (at (z, tt) (number_items ℤ zs i z e)).1.is)

  value_back : (own : Option (List ℕ)) (q : ℕ) (e : Found) → IsItem b.bytes (record { item = nullable; place = q; content = (own, tt) }) e → ValueIs b own e
  unfolding item_slots slots_of_each atom_slot value_slot value_element AtomsPlaced AtomPlaced ValuePlaced
  value_back none q e h = h.is
  value_back (some own) q e h = (_, h.is, h.placed.0)

  values_back : (lengths : List ℤ) (joined : List ℕ) (cs : List (ItemContent nullable)) → values_given lengths joined ≡ some cs → list.count ≡ length cs → ((i : ℕ) → Answers b.bytes (item_from nullable p cs i) (b.element l i)) → Values b l list lengths joined
  values_back lengths joined cs g many calls =
      list_back b l p list nullable cs many calls lengths _ ((values lengths joined).many cs g)
      (λ i z e at. let w = at _ ((values lengths joined).items cs g i z e) in value_back _ w.0 _ w.1)

  errors_back : (codes lengths joined : List ℕ) (cs : List (ItemContent error_field)) → error_fields_given codes lengths joined ≡ some cs → list.count ≡ length cs → ((i : ℕ) → Answers b.bytes (item_from error_field p cs i) (b.element l i)) → ErrorFields b l list codes lengths joined
  unfolding item_slots slots_of_each atom_slot AtomsPlaced AtomPlaced
  errors_back codes lengths joined cs g many calls =
      list_back b l p list error_field cs many calls codes _ ((error_fields_lem codes lengths joined).many cs g)
      (λ i code e at n m. let w = at _ ((error_fields_lem codes lengths joined).items cs g i code n e m) in (_, w.1.is, w.1.placed.1.0))

  rows_back : (fields : List FieldDescription) (run : List ℕ) (cs : List (ItemContent row_field)) → row_fields_given fields run ≡ some cs → list.count ≡ length cs → ((i : ℕ) → Answers b.bytes (item_from row_field p cs i) (b.element l i)) → RowFields b l list fields run
  unfolding item_slots slots_of_each atom_slot AtomsPlaced AtomPlaced
  rows_back fields run cs g many calls =
      list_back b l p list row_field cs many calls fields _ ((row_fields_lem fields run).many cs g)
      (λ i d e at.
      let x = (row_fields_lem fields run).items cs g i d e in
      let is = x.2 in
      let w = at x.0 x.1 in
      record {
        field = _;
        is = w.1.is;
        name = w.1.placed.0 ∙ is.name;
        table_id = is.table_id;
        column_id = is.column_id;
        type_id = is.type_id;
        type_size = is.type_size;
        type_modifier = is.type_modifier;
        format_code = is.format_code;
      })

  pairs_back : (lengths joined : List ℕ) (cs : List (ItemContent pair)) → pairs_given lengths joined ≡ some cs → list.count ≡ length cs → ((i : ℕ) → Answers b.bytes (item_from pair p cs i) (b.element l i)) → Pairs b l list lengths joined
  unfolding item_slots slots_of_each atom_slot AtomsPlaced AtomPlaced
  pairs_back lengths joined cs g many calls =
      let halves = (pairs lengths joined).many cs g in
      record {
        count = omega (arith, halves, many);
        element = λ i name value e m.
            let w = item_at b l p list pair cs many calls i _ ((pairs lengths joined).items cs g i name value e m) in
            (_, _, w.1.is, w.1.placed.0, w.1.placed.1.0);
        past = λ i h. rw (no_item pair p cs i (omega (arith, halves))) at (calls i);
      }

-- ---- the kinds

-- an answer of one byte is a kind by itself
tls : (response : SslResponse) → Comes (ssl_kind response) (G.ssl_response response) (Unit {0}) (Bare (M.SslResponse response))
unfolding the_table G.ssl_response HoldsEach
tls Ssl.Accept = of_content K.ssl_accept tt tt (λ b h. (tt, h.message))
tls Ssl.Refuse = of_content K.ssl_refuse tt tt (λ b h. (tt, h.message))

gss : (response : GssEncResponse) → Comes (gss_kind response) (G.gss_enc_response response) (Unit {0}) (Bare (M.GssEncResponse response))
unfolding the_table G.gss_enc_response HoldsEach
gss Gss.Accept = of_content K.gss_accept tt tt (λ b h. (tt, h.message))
gss Gss.Refuse = of_content K.gss_refuse tt tt (λ b h. (tt, h.message))

pub by_name : ByName the_codec
unfolding the_table G.parse G.parse_complete G.close G.close_complete G.bind G.bind_complete G.describe G.execute G.flush G.sync G.portal_suspended G.copy_data G.copy_done G.copy_fail G.copy_in_response G.copy_out_response G.copy_both_response G.row_description G.parameter_description G.data_row G.no_data G.command_complete G.empty_query_response G.ready_for_query G.error_response G.notice_response G.notification_response G.cancel_request G.startup G.ssl_request G.gss_enc_request G.parameter_status G.backend_key_data G.query G.terminate HoldsEach InRange AtomInRange found FieldsPlaced FieldPlaced AtomPlaced slots_of_each slot atom_slot
by_name = record {
  parse = λ name query types n q o.
      of_content K.parse (name, (query, (items types, tt))) (n, (q, (in_range_lem.oids types o, tt)))
      (λ b h. (_, (h.message, h.placed.0, h.placed.1.0, oids b 0 _ _ types h.placed.1.1.0.1 (h.elements 0))));
  parse_complete = of_content K.parse_complete tt tt (λ b h. (tt, h.message));
  close = λ target name t n. of_content K.close (target, (name, tt)) (t, (n, tt)) (λ b h. (_, (h.message, refl, h.placed.1.0)));
  close_complete = of_content K.close_complete tt tt (λ b h. (tt, h.message));
  bind = λ portal statement codes lengths joined results p s f l j r.
      of_made K.bind (λ vs. (portal, (statement, (items codes, (vs, (items results, tt)))))) (values_given lengths joined)
      (λ vs e. (p, (s, (in_range_lem.formats codes f, (in_range_lem.values lengths joined vs l j e, (in_range_lem.formats results r, tt))))))
      (λ vs b e h.
      let lists = h.placed.1.1 in (
        _,
        (
          h.message,
          h.placed.0,
          h.placed.1.0,
          formats b 0 _ _ codes lists.0.1 (h.elements 0),
          values_back b 1 _ _ lengths joined vs e lists.1.0.1 (h.elements 1),
          formats b 2 _ _ results lists.1.1.0.1 (h.elements 2),
        ),
      ));
  bind_complete = of_content K.bind_complete tt tt (λ b h. (tt, h.message));
  describe = λ target name t n. of_content K.describe (target, (name, tt)) (t, (n, tt)) (λ b h. (_, (h.message, refl, h.placed.1.0)));
  execute = λ name rows n r. of_content K.execute (name, (rows, tt)) (n, (r, tt)) (λ b h. (_, (h.message, h.placed.0, refl)));
  flush = of_content K.flush tt tt (λ b h. (tt, h.message));
  sync = of_content K.sync tt tt (λ b h. (tt, h.message));
  portal_suspended = of_content K.portal_suspended tt tt (λ b h. (tt, h.message));
  copy_data = λ «data» d. of_content K.copy_data («data», tt) (d, tt) (λ b h. (_, (h.message, h.placed.0)));
  copy_done = of_content K.copy_done tt tt (λ b h. (tt, h.message));
  copy_fail = λ message m. of_content K.copy_fail (message, tt) (m, tt) (λ b h. (_, (h.message, h.placed.0)));
  copy_in_response = λ format codes f c.
      of_content K.copy_in_response (format, (items codes, tt)) (f, (in_range_lem.formats codes c, tt))
      (λ b h. (_, (h.message, refl, formats b 0 _ _ codes h.placed.1.0.1 (h.elements 0))));
  copy_out_response = λ format codes f c.
      of_content K.copy_out_response (format, (items codes, tt)) (f, (in_range_lem.formats codes c, tt))
      (λ b h. (_, (h.message, refl, formats b 0 _ _ codes h.placed.1.0.1 (h.elements 0))));
  copy_both_response = λ format codes f c.
      of_content K.copy_both_response (format, (items codes, tt)) (f, (in_range_lem.formats codes c, tt))
      (λ b h. (_, (h.message, refl, formats b 0 _ _ codes h.placed.1.0.1 (h.elements 0))));
  row_description = λ fields run f r.
      of_made K.row_description (λ fs. (fs, tt)) (row_fields_given fields run) (λ fs e. (in_range_lem.row_fields fields run fs f r e, tt))
      (λ fs b e h. (_, (h.message, rows_back b 0 _ _ fields run fs e h.placed.0.1 (h.elements 0))));
  parameter_description = λ types t.
      of_content K.parameter_description (items types, tt) (in_range_lem.oids types t, tt)
      (λ b h. (_, (h.message, oids b 0 _ _ types h.placed.0.1 (h.elements 0))));
  data_row = λ lengths joined l j.
      of_made K.data_row (λ vs. (vs, tt)) (values_given lengths joined) (λ vs e. (in_range_lem.values lengths joined vs l j e, tt))
      (λ vs b e h. (_, (h.message, values_back b 0 _ _ lengths joined vs e h.placed.0.1 (h.elements 0))));
  no_data = of_content K.no_data tt tt (λ b h. (tt, h.message));
  command_complete = λ tag t. of_content K.command_complete (tag, tt) (t, tt) (λ b h. (_, (h.message, h.placed.0)));
  empty_query_response = of_content K.empty_query_response tt tt (λ b h. (tt, h.message));
  ready_for_query = λ status s. of_content K.ready_for_query (status, tt) (s, tt) (λ b h. (_, (h.message, refl)));
  error_response = λ codes lengths joined c j.
      of_made K.error_response (λ fs. (fs, tt)) (error_fields_given codes lengths joined) (λ fs e. (in_range_lem.error_fields codes lengths joined fs c j e, tt))
      (λ fs b e h. (_, (h.message, errors_back b 0 _ _ codes lengths joined fs e h.placed.0.1 (h.elements 0))));
  notice_response = λ codes lengths joined c j.
      of_made K.notice_response (λ fs. (fs, tt)) (error_fields_given codes lengths joined) (λ fs e. (in_range_lem.error_fields codes lengths joined fs c j e, tt))
      (λ fs b e h. (_, (h.message, errors_back b 0 _ _ codes lengths joined fs e h.placed.0.1 (h.elements 0))));
  notification_response = λ pid channel payload i c p.
      of_content K.notification_response (pid, (channel, (payload, tt))) (i, (c, (p, tt)))
      (λ b h. (_, (h.message, refl, h.placed.1.0, h.placed.1.1.0)));
  ssl_response = tls;
  gss_enc_response = gss;
  cancel_request = λ pid key i k. of_content K.cancel_request (pid, (key, tt)) (i, (k, tt)) (λ b h. (_, (h.message, refl, refl)));
  startup = λ lengths joined j.
      of_made K.startup (λ ps. (ps, tt)) (pairs_given lengths joined) (λ ps e. (in_range_lem.pairs lengths joined ps j e, tt))
      (λ ps b e h. (_, (h.message, pairs_back b 0 _ _ lengths joined ps e h.placed.0.1 (h.elements 0))));
  ssl_request = of_content K.ssl_request tt tt (λ b h. (tt, h.message));
  gss_enc_request = of_content K.gss_enc_request tt tt (λ b h. (tt, h.message));
  parameter_status = λ name own n v. of_content K.parameter_status (name, (own, tt)) (n, (v, tt)) (λ b h. (_, (h.message, h.placed.0, h.placed.1.0)));
  backend_key_data = λ pid key i k. of_content K.backend_key_data (pid, (key, tt)) (i, (k, tt)) (λ b h. (_, (h.message, refl, refl)));
  query = λ query q. of_content K.query (query, tt) (q, tt) (λ b h. (_, (h.message, h.placed.0)));
  terminate = of_content K.terminate tt tt (λ b h. (tt, h.message));
}
