-- Calls that the card does not refuse, by the book: opening and adding while the windows have room, sealing what is
-- built, showing a frame that is sealed and not acknowledged, reading an acknowledgement. Assumes nothing.
use Prim.Native.Nat.{ℕ, ◌+◌, ◌-◌, ◌%◌, ◌≤◌, ◌<◌}
use native.Mathlib.Omega.{arith}
use mathlib.Core.Path.{◌≡◌, sym, ap, ◌∙◌, subst}
use mathlib.Core.Bool.{true, false, and-false}
use mathlib.Core.List.{List, [], ◌∷◌, map}
use borrow.Author.Tests.{lt-ltb, le-ltb, lt-leb, ne_eqb}
use lib.Dec.{eqb, lit<}
use lib.ListN.{length, get_or}
use Rattle.seq.specs.Ring.{frame_space, trans_space, distance, in_range}
use Rattle.seq.proofs.Ring.{distance-ahead}
use Rattle.bitmap.specs.Marks.{mark}
use Rattle.wire.specs.Format.{needed, next_header}
use Rattle.wire.proofs.Format.{length-frame}
use Rattle.card.specs.Window.{unreleased, held}
use Rattle.card.specs.Sendings.{no_sending, opened, sending_at, opening_refusal, takes}
use Rattle.card.specs.declared.Card.{Card}
use Rattle.card.specs.Card.{open_transaction, add_refusal, show_refusal}
use Rattle.card.proofs.Slots.{limit-least, Built}
use Rattle.delivery.specs.Book.{MessageRecord, Book, frame_at, released_count, transaction_at}
use Rattle.delivery.specs.System.{System}
use Rattle.delivery.proofs.Book.Sound.{low_unfinished}
use Rattle.delivery.proofs.Host.HostStep.{wired}
use Rattle.delivery.proofs.Card.CardFor.{TermsFor, in_all, low-most, unreleased-is, opened-is}
use Rattle.delivery.proofs.Agree.{SystemFor}

module _ (card_id host_id : ℕ) (w : System) (b : Book) (f : SystemFor card_id host_id w b) where
  abbrev c : Card
  c = w.card

  abbrev slots : List ℕ
  slots = w.slots

  abbrev low : ℕ
  low = low_unfinished b

  pub opens-unrefused : (count address value : ℕ) → length b.transactions < low + 32
      → (open_transaction c count address value).refusal ≡ 0
  unfolding open_transaction opening_refusal
  opens-unrefused count address value room =
      rw (lt-ltb (opened c.sendings) 32
      (omega (arith, opened-is c slots b f.card_for f.sound, low-most c slots b f.card_for f.sound)))

  -- a message with no data, of transaction i, as the first of a frame
  module _ (i : ℕ) (least : low ≤ i) (is_open : i < length b.transactions)
      (more : in_all b i < needed (transaction_at b i).count) (none_built : b.building ≡ [])
      (room : length b.frames < released_count b + 64) where
    abbrev num : ℕ
    num = i % trans_space

    same-entry : num % 32 ≡ i % 32
    same-entry = omega arith

    terms : TermsFor (sending_at c.sendings num) b i
    terms =
        subst (λ (k : ℕ). TermsFor (get_or c.sendings.table k no_sending) b i) (sym same-entry)
        (f.card_for.terms_are i least is_open)

    in_window : in_range trans_space c.sendings.lowest.0 (opened c.sendings) num ≡ true
    in_window =
        let d : distance trans_space (low % trans_space) num ≡ i - low =
        distance-ahead trans_space (lit< tt) low i least (omega (arith, f.sound.trans_fit)) in
        let e : distance trans_space c.sendings.lowest.0 num ≡ i - low = rw f.card_for.trans_low_is d in
        lt-ltb (distance trans_space c.sendings.lowest.0 num) (opened c.sendings)
        (omega (arith, e, opened-is c slots b f.card_for f.sound))

    takes_one : takes c.sendings num ≡ true
    unfolding takes
    takes_one =
        rw (
          in_window,
          lt-ltb (sending_at c.sendings num).added (needed (sending_at c.sendings num).count)
              (omega (arith, terms.added_is, ap needed terms.count_is, more)),
        )

    none-used : c.used ≡ 0
    none-used =
        subst (λ (es : List MessageRecord). Built c slots (map (wired b.transactions) es)) none_built
        f.card_for.built_is

    pub adds-unrefused : add_refusal c slots num [] ≡ 0
    unfolding add_refusal next_header
    adds-unrefused =
        rw (
          f.card_for.fitted,
          takes_one,
          and-false (eqb (sending_at c.sendings num).count 0),
          lt-leb 64 (unreleased c.window) (omega (arith, unreleased-is c slots b f.card_for f.sound)),
          none-used,
          le-ltb c.limit 34 (limit-least c.limit slots f.card_for.fitted),
        )

  pub seals-unrefused : 0 < length b.building → eqb c.used 0 ≡ false
  seals-unrefused some = go b.building some f.card_for.built_is
    where
      go : (es : List MessageRecord) → 0 < length es → Built c slots (map (wired b.transactions) es)
          → eqb c.used 0 ≡ false
      go [] l k = absurd (omega arith)
      go (e ∷ es) l k =
          let ms = map (wired b.transactions) (e ∷ es) in
          ne_eqb c.used 0 (λ z. omega (arith, k.0, length-frame c.peer c.own c.window.next.0 ms))

  pub shows-unrefused : (n : ℕ) → released_count b ≤ n → n < length b.frames → (frame_at b n).acknowledged ≡ false
      → show_refusal c slots (n % frame_space) ≡ 0
  unfolding show_refusal held
  shows-unrefused n least most clear =
      let low = released_count b in
      let d : distance frame_space (low % frame_space) (n % frame_space) ≡ n - low =
      distance-ahead frame_space (lit< tt) low n least (omega (arith, f.sound.frames_fit)) in
      let e : distance frame_space c.window.base.0 (n % frame_space) ≡ n - low = rw f.card_for.low_is d in
      let z : low + (n - low) ≡ n = omega arith in
      let m : mark c.window.acked (n - low) ≡ false =
      f.card_for.marks_are (n - low) ∙ ap (λ (k : ℕ). (frame_at b k).acknowledged) z ∙ clear in
      rw (
        f.card_for.fitted,
        e,
        lt-ltb (n - low) (unreleased c.window) (omega (arith, unreleased-is c slots b f.card_for f.sound)),
        m,
      )
