-- Where no subscriber is counted at two cards, what all blocks tell of a subscriber is what its home tells of it. So
-- the statement on several cards gives the one by cards. Assumes nothing.
use Prim.Native.Nat.{ℕ}
use native.Mathlib.Omega.{arith}
use mathlib.Core.Path.{◌≡◌, refl, sym, ap, ◌∙◌, subst}
use mathlib.Core.Bool.{Bool, true, false, cond}
use mathlib.Core.List.{List, [], ◌∷◌, ◌++◌, map}
use borrow.Author.Tests.{eqb-true, eqb-false}
use lib.Dec.{eqb}
use lib.ListN.{length}
use Rattle.table.specs.TableEnd.{TableEnd, specified_table}
use Rattle.ledger.specs.Ledger.{subscribers}
use Rattle.ledger.specs.History.{bytes_passed, InStep}
use Rattle.ledger.specs.Counted.{Counted, block_of, all_of, counts_of, true_bytes, all_true_bytes}
use Rattle.ledger.proofs.Accounts.{sum_same}
use Rattle.delivery_ledger.specs.Blocks.{Act, does, takes, Course, blocks_sent, TakenInOrder}
use Rattle.delivery_ledger_table.specs.Together.{cards_course, ChargedTogetherFor}
use Rattle.delivery_ledger_table.specs.OneCardEach.{
  told_by,
  AllAt,
  CountedAtHome,
  home_bytes,
  all_home_bytes,
  TakenByCard,
  ChargedAtHomeFor,
  ChargedAtHome,
}
use Rattle.delivery_ledger_table.proofs.Together.{charged-together}

counts-append : (s : ℕ) (xs ys : List Counted) → counts_of s (xs ++ ys) ≡ counts_of s xs ++ counts_of s ys
unfolding counts_of
counts-append s [] ys = refl
counts-append s (c ∷ cs) ys = go (eqb c.subscriber s) (counts-append s cs ys)
  where
    go : (b : Bool) → counts_of s (cs ++ ys) ≡ counts_of s cs ++ counts_of s ys
        → cond b (c.count ∷ counts_of s (cs ++ ys)) (counts_of s (cs ++ ys))
        ≡ cond b (c.count ∷ counts_of s cs) (counts_of s cs) ++ counts_of s ys
    go true e = ap (λ (l : List ℕ). c.count ∷ l) e
    go false e = e

-- a card tells nothing of a subscriber whose home is another
none_elsewhere : (home : ℕ → ℕ) (r s : ℕ) (cs : List Counted) → AllAt home r cs → (r ≡ home s → ⊥)
    → counts_of s cs ≡ []
unfolding AllAt counts_of
none_elsewhere home r s [] a n = refl
none_elsewhere home r s (c ∷ cs) a n =
    go (eqb c.subscriber s) refl (none_elsewhere home r s cs a.1 n)
  where
    go : (b : Bool) → eqb c.subscriber s ≡ b → counts_of s cs ≡ []
        → cond b (c.count ∷ counts_of s cs) (counts_of s cs) ≡ []
    go true q e = absurd (n (sym a.0 ∙ ap home (eqb-true c.subscriber s q)))
    go false q e = e

none_told : (told : List (List Counted)) → [] ≡ map block_of told → told ≡ []
none_told [] e = refl
none_told (cs ∷ told) e = absurd (go (ap length e))
  where
    go : ◌≡◌ {A = ℕ} 0 (length (map block_of (cs ∷ told))) → ⊥
    go q = omega (arith, q)

tail-same : {x y : List ℕ} {xs ys : List (List ℕ)} → x ∷ xs ≡ y ∷ ys → xs ≡ ys
tail-same {x} {y} {xs} {ys} e = ap rest e
  where
    rest : List (List ℕ) → List (List ℕ)
    rest [] = []
    rest (z ∷ zs) = zs

module _ {C : Type 0} (home : ℕ → ℕ) where
  own-counts : (s : ℕ) (acts : List (Act C)) (told : List (List Counted)) → blocks_sent acts ≡ map block_of told
      → CountedAtHome home acts told → counts_of s (all_of told) ≡ counts_of s (told_by (home s) acts told)
  unfolding blocks_sent all_of told_by CountedAtHome counts_of
  own-counts s [] told t a = ap (λ (l : List (List Counted)). counts_of s (all_of l)) (none_told told t)
  own-counts s (does x ∷ as') told t a = own-counts s as' told t a
  own-counts s (takes k ∷ as') [] t a = refl
  own-counts s (takes k ∷ as') (cs ∷ told) t a =
      counts-append s cs (all_of told)
      ∙ go (eqb k.card (home s)) refl (own-counts s as' told (tail-same t) a.1)
      ∙ sym (counts-append s (cond (eqb k.card (home s)) cs []) (told_by (home s) as' told))
    where
      go : (b : Bool) → eqb k.card (home s) ≡ b
          → counts_of s (all_of told) ≡ counts_of s (told_by (home s) as' told)
          → counts_of s cs ++ counts_of s (all_of told)
          ≡ counts_of s (cond b cs []) ++ counts_of s (told_by (home s) as' told)
      go true q e = ap (λ (l : List ℕ). counts_of s cs ++ l) e
      go false q e =
          ap (λ (l : List ℕ). l ++ counts_of s (all_of told))
          (none_elsewhere home k.card s cs a.0 (eqb-false k.card (home s) q))
          ∙ e

  module _ (acts : List (Act C)) (told : List (List Counted)) (v : Course C) (t : TakenByCard home acts told v) where
    bytes_same : (s : ℕ) → true_bytes s (all_of told) ≡ home_bytes home acts told s
    unfolding true_bytes
    bytes_same s = ap bytes_passed (own-counts s acts told t.tells t.at_home)

    all_same : all_true_bytes (all_of told) ≡ all_home_bytes home acts told
    unfolding all_true_bytes
    all_same =
        sum_same subscribers (λ (s : ℕ). true_bytes s (all_of told)) (home_bytes home acts told) (λ s h. bytes_same s)

    in_order : TakenInOrder v acts told
    in_order = record {
      ready_each = t.ready_each;
      tells = t.tells;
      countable = record {
        known = t.known;
        in_step = λ s. subst InStep (sym (own-counts s acts told t.tells t.at_home)) (t.in_step s);
        fits = omega (arith, all_same, t.fits);
      };
    }

pub by_home : (e : TableEnd) → ChargedTogetherFor e → ChargedAtHomeFor e
unfolding ChargedTogetherFor ChargedAtHomeFor
by_home e d host_id memory setup terms acts told home p t =
    let v = cards_course e host_id memory setup terms in
    let c = d host_id memory setup terms acts told p (in_order home acts told v t) in
    record {
      none_refused = c.none_refused;
      totals_are = λ s. c.charges.totals_are s ∙ bytes_same home acts told v t s;
      summary_is = c.charges.summary_is ∙ all_same home acts told v t;
    }

pub charged-at-home : ChargedAtHome
charged-at-home = by_home specified_table charged-together
