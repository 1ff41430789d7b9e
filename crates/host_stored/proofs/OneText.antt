-- One pair, one text: a text reads as a pair exactly if the pair is storable and the text is its text. For any version.
-- Assumes nothing.
use mathlib.Core.Path.{◌≡◌, refl, sym, ◌∙◌, ap}
use mathlib.Core.Logic.{◌≢◌, inl, ◌↔◌}
use mathlib.Core.Bool.{Bool, true, false, cond, not, ◌&&◌, ◌||◌}
use mathlib.Core.List.{List, ◌++◌}
use mathlib.Core.Option.{Option, none, some}
use Prim.Native.Nat.{ℕ, ◌%◌, ◌<◌}
use native.Mathlib.Omega.{arith}
use borrow.Author.Tests.{eq-eqb, ne_eqb, eqb-true, eqb-false, not-true}
use lib.Dec.{eqb, ltb}
use lib.Seq.{take_at}
use lib.ListN.{length, get_or, take, drop}
use Rattle.seq.specs.Ring.{advance, trans_space}
use Rattle.bitmap.specs.Marks.{mark}
use Rattle.host.specs.declared.Open.{Open}
use Rattle.host.specs.Terms.{free}
use Rattle.host.specs.declared.Pair.{Pair}
use Rattle.host.specs.declared.Opened.{Opened}
use Rattle.hexadecimal.specs.Fields.{
  Fitting,
  no_more,
  and,
  AllFitting,
  line_of,
  lines_of,
  line_length,
  read_line,
  read_all,
}
use Rattle.hexadecimal.proofs.fields.BothWays.{
  both,
  line_reads,
  line-behind,
  lines-read,
  read-line,
  read-lines,
  Line,
  Lines,
}
use Rattle.host_stored.specs.Form.{
  head_widths,
  open_widths,
  first_line,
  opens_of,
  text_as,
  not_stored,
  stored_as,
  buffer_as,
  empty_table,
  table_from,
  version_in,
  pair_in,
  head_fine,
  opens_fine,
  refused_reading,
  reading,
  judged,
  read_as,
}
use Rattle.host_stored.specs.Storable.{TypedOpen, Typed, StorableTable, Storable}
use Rattle.host_stored.proofs.Opens.{
  empty-free,
  empty-length,
  opens-of-table,
  table-of-opens,
  opens-fine,
  table-storable,
  table-typed,
  length-table_from,
  opens-fit,
}

-- ---- the first line

head-fits : (version : ℕ) (p : Pair) → version < 256 → Typed p → Fitting head_widths (first_line version p)
head-fits version p v t =
    and v (and t.own-fits (and t.peer-fits (and t.next_fits (and t.marks-fit (and t.lowest-fits
    (and t.closed-fits no_more))))))

record HeadFine (p : Pair) : Type 0 where
  own-id : p.own ≢ 0
  peer-id : p.peer ≢ 0
  next-new : mark p.marks 0 ≡ false
  lowest-open : mark p.closed 0 ≡ false

fine-head : (p : Pair) → head_fine p ≡ true → HeadFine p
unfolding head_fine
fine-head p e =
    let a = both (not (eqb p.own 0)) _ e in
    let b = both (not (eqb p.peer 0)) _ a.1 in
    let c = both (not (mark p.marks 0)) (not (mark p.closed 0)) b.1 in
    record {
      own-id = eqb-false p.own 0 (not-true (eqb p.own 0) a.0);
      peer-id = eqb-false p.peer 0 (not-true (eqb p.peer 0) b.0);
      next-new = not-true (mark p.marks 0) c.0;
      lowest-open = not-true (mark p.closed 0) c.1;
    }

head-fine : (p : Pair) → Storable p → head_fine p ≡ true
unfolding head_fine
head-fine p s = rw (ne_eqb p.own 0 s.own-id, ne_eqb p.peer 0 s.peer-id, s.next-new, s.lowest-open)

-- ---- a storable pair's text reads as the pair

module _ (version : ℕ) (v : version < 256) (p : Pair) (t : Typed p) where
  opens-fitting : AllFitting open_widths (opens_of p)
  opens-fitting = opens-fit 32 0 p.lowest.0 p.table t.opens-fit

  pub stored-reads : Storable p → read_as version (text_as version p) ≡ reading p
  unfolding read_as text_as
  stored-reads s =
      let f = head-fits version p v t in
      let fs = opens-fitting in
      let rest : List ℕ = lines_of open_widths (opens_of p) in
      let fine =
      opens-fine p.lowest.0 p.closed t.lowest-fits 32 0 p.table refl s.opens 0 (omega arith) in
      let table = table-of-opens p.lowest.0 p.closed t.lowest-fits p.table t.entries s.opens in
      rw (
        line_reads rest f,
        line-behind rest f,
        lines-read fs,
        table,
        eq-eqb version version refl,
        head-fine p s,
        fine,
      )

-- ---- what reads as a pair is its text

pub record Reads (version : ℕ) (text : List ℕ) (p : Pair) : Type 0 where
  pub typed : Typed p
  pub storable : Storable p
  pub text-is : text ≡ text_as version p

typed_free : (k : ℕ) → TypedOpen (get_or empty_table k free)
typed_free k = rw (empty-free k) (record {
  address-fits = omega arith;
  value-fits = omega arith;
  count_fits = omega arith;
  received-fits = omega arith;
})

-- the first line of a pair that its numbers make is these numbers
head-is : (version : ℕ) (xs : List ℕ) (table : List Open) → Fitting head_widths xs → version_in xs ≡ version
    → first_line version (pair_in xs table) ≡ xs
head-is version xs table (and a (and b (and c (and d (and e (and f (and g no_more))))))) v = rw (← v)

pair_typed : {xs : List ℕ} {lines : List (List ℕ)} → Fitting head_widths xs → AllFitting open_widths lines
    → Typed (pair_in xs (table_from empty_table lines))
pair_typed {xs} {lines} (and a (and b (and c (and d (and e (and f (and g no_more))))))) fs = record {
  own-fits = b;
  peer-fits = c;
  next_fits = d;
  marks-fit = e;
  lowest-fits = f;
  closed-fits = g;
  entries = length-table_from empty_table lines ∙ empty-length;
  opens-fit = table-typed empty_table empty-length typed_free fs;
}

module _ (version : ℕ) (text xs : List ℕ) (lines : List (List ℕ)) where
  p : Pair
  p = pair_in xs (table_from empty_table lines)

  pair_reads : Line head_widths text xs → Lines open_widths (drop (line_length head_widths) text) lines
      → version_in xs ≡ version → HeadFine p → opens_fine p.lowest.0 p.closed 0 lines ≡ true
      → Reads version text p
  unfolding text_as p
  pair_reads l ls v h f =
      let t : Typed p = pair_typed l.fitting ls.fitting in
      let opens = opens-of-table p.lowest.0 p.closed t.lowest-fits ls.fitting f in
      let empty : StorableTable p.lowest.0 p.closed empty_table = record {
        each = λ k. inl (empty-free k);
        closed-free = λ j h e. empty-free (advance trans_space p.lowest.0 j % 32);
      } in
      record {
        typed = t;
        storable = record {
          own-id = h.own-id;
          peer-id = h.peer-id;
          next-new = h.next-new;
          lowest-open = h.lowest-open;
          opens =
              table-storable p.lowest.0 p.closed t.lowest-fits 0 empty_table empty-length empty ls.fitting
              f;
        };
        text-is =
            l.is
            ∙ rw (head-is version xs (table_from empty_table lines) l.fitting v, opens)
            (ap (λ (t : List ℕ). line_of head_widths xs ++ t) ls.is);
      }

-- every reading is refused, or it is of a storable pair whose text it is
pub data Reading (version : ℕ) (text : List ℕ) : Opened → Type 0 where
  is-refused : Reading version text refused_reading
  is-of : (p : Pair) → Reads version text p → Reading version text (reading p)

pub reading-of : (version : ℕ) (text : List ℕ) → Reading version text (read_as version text)
unfolding read_as p
reading-of version text =
    go (read_line head_widths text) refl (read_all open_widths (drop (line_length head_widths) text)) refl
  where
    go : (o : Option (List ℕ)) → read_line head_widths text ≡ o → (os : Option (List (List ℕ)))
        → read_all open_widths (drop (line_length head_widths) text) ≡ os → Reading version text (judged version o os)
    go none e os es = is-refused
    go (some xs) e none es = is-refused
    go (some xs) e (some lines) es =
        fine (eqb (version_in xs) version) refl (head_fine q) refl (opens_fine q.lowest.0 q.closed 0 lines) refl
      where
        q : Pair
        q = pair_in xs (table_from empty_table lines)

        fine : (a : Bool) → eqb (version_in xs) version ≡ a → (b : Bool) → head_fine q ≡ b → (c : Bool)
            → opens_fine q.lowest.0 q.closed 0 lines ≡ c
            → Reading version text (cond (a && (b && c)) (reading q) refused_reading)
        fine false v b h c f = is-refused
        fine true v false h c f = is-refused
        fine true v true h false f = is-refused
        fine true v true h true f =
            is-of q
            (pair_reads version text xs lines (read-line head_widths text xs e)
            (read-lines open_widths (drop (line_length head_widths) text) lines es) (eqb-true (version_in xs) version v)
            (fine-head q h) f)

pub read-stored : (version : ℕ) (text : List ℕ) (p : Pair) → read_as version text ≡ reading p → Reads version text p
read-stored version text p e = go (read_as version text) (reading-of version text) e
  where
    go : (r : Opened) → Reading version text r → r ≡ reading p → Reads version text p
    go r is-refused q = let z : ◌≡◌ {A = ℕ} 15 0 = ap (λ (o : Opened). o.refusal.number) q in absurd (omega arith)
    go r (is-of o t) q = rw (← ap (λ (r : Opened). r.pair) q) t

-- ---- one pair, one text

-- a text reads as a pair exactly if the pair is storable and the text is its text
pub one-text : (version : ℕ) → version < 256 → (text : List ℕ) (p : Pair) → Typed p
    → (read_as version text ≡ reading p) ↔ (Storable p × (text ≡ text_as version p))
one-text version v text p t = (
  λ e. (let r = read-stored version text p e in (r.storable, r.text-is)),
  λ s. rw s.1 (stored-reads version v p t s.0),
)

-- so no two pairs have one text
pub one-pair : (version : ℕ) → version < 256 → (p q : Pair) → Typed p → Typed q → Storable p → Storable q
    → text_as version p ≡ text_as version q → p ≡ q
one-pair version v p q t u s r e =
    ap (λ (o : Opened). o.pair)
    (sym (stored-reads version v p t s) ∙ ap (read_as version) e ∙ stored-reads version v q u r)

-- a text is refused exactly if no storable pair has it
pub refused-exactly : (version : ℕ) → version < 256 → (text : List ℕ)
    → (read_as version text ≡ refused_reading) ↔ ((p : Pair) → Typed p → Storable p → text ≢ text_as version p)
refused-exactly version v text = (refused, none_has)
  where
    refused : read_as version text ≡ refused_reading → (p : Pair) → Typed p → Storable p → text ≢ text_as version p
    refused e p t s q =
        let r : reading p ≡ refused_reading = sym (rw q (stored-reads version v p t s)) ∙ e in
        let z : ◌≡◌ {A = ℕ} 0 15 = ap (λ (o : Opened). o.refusal.number) r in
        omega arith

    none_has : ((p : Pair) → Typed p → Storable p → text ≢ text_as version p) → read_as version text ≡ refused_reading
    none_has f = go (read_as version text) (reading-of version text)
      where
        go : (r : Opened) → Reading version text r → r ≡ refused_reading
        go r is-refused = refl
        go r (is-of p k) = absurd (f p k.typed k.storable k.text-is)

-- an answer without a refusal has the text's length
stored-length : (version : ℕ) (p : Pair) (buffer : List ℕ) → (stored_as version p buffer).refusal ≡ 0
    → (stored_as version p buffer).length ≡ length (text_as version p)
unfolding stored_as
stored-length version p buffer e =
    go (eqb p.own 0 || eqb p.peer 0) (ltb (length buffer) (length (text_as version p))) e
  where
    n : ℕ
    n = length (text_as version p)

    go : (a b : Bool)
        → (cond a (not_stored 13) (cond b (not_stored 19) (record { refusal = 0; length = n }))).refusal ≡ 0
        → (cond a (not_stored 13) (cond b (not_stored 19) (record { refusal = 0; length = n }))).length ≡ n
    go true b q = absurd (omega arith)
    go false true q = absurd (omega arith)
    go false false q = refl

-- what was stored in a buffer reads as the pair
pub stored-returns : (version : ℕ) → version < 256 → (p : Pair) (buffer : List ℕ) → Typed p → Storable p
    → (stored_as version p buffer).refusal ≡ 0
    → read_as version (take (stored_as version p buffer).length (buffer_as version p buffer)) ≡ reading p
unfolding buffer_as
stored-returns version v p buffer t s e =
    let text : List ℕ = text_as version p in
    let n : (stored_as version p buffer).length ≡ length text = stored-length version p buffer e in
    rw (n, eq-eqb (stored_as version p buffer).refusal 0 e, take_at text _ (length text) refl)
    (stored-reads version v p t s)
