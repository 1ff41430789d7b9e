-- In a list of calls a receiving leaves a pair that a run can reach as one, also where the data of its messages are no
-- bytes: by the frame's messages, which fit their fields. Assumes nothing.
use Prim.Native.Nat.{ℕ, ◌%◌, ◌<◌}
use native.Mathlib.Omega.{arith}
use mathlib.Core.Logic.{inl, inr}
use mathlib.Core.List.Memᴰ
use mathlib.Core.List.{List, [], map, Memᴰ}
use lib.ListN.{get_or}
use Rattle.seq.specs.Ring.{frame_space}
use Rattle.host.specs.Host.{receive_of}
use Rattle.host.specs.Reachable.{Reachable}
use Rattle.host.proofs.Reachable.{by_number-reachable}
use Rattle.delivery.specs.System.{System}
use Rattle.delivery.specs.Book.{HandOut, nothing_handed, lent_ack, frame_copy, Book, frame_at, book_memory}
use Rattle.delivery.proofs.Book.Along.{Found, along-at}
use Rattle.delivery.proofs.Book.Sums.{messages-of-frame}
use Rattle.delivery.proofs.Rest.{Copied}
use Rattle.delivery.proofs.Agree.{SystemFor}
use Rattle.delivery.proofs.Host.HostStep.{wired}
use Rattle.delivery.proofs.Host.Receive.{receive-short, received, all_fit}

module _ (card_id host_id : ℕ) (card_fits : card_id < frame_space) (host_fits : host_id < frame_space) (w : System) (b : Book)
    (f : SystemFor card_id host_id w b) where
  -- a copy of a frame, by the frame's messages; all else leaves the pair as it is
  reached-reachable : (g : List ℕ) (x : HandOut) → Memᴰ x b.hand_outs → Copied card_id host_id b g x
      → Reachable w.host → Reachable (receive_of w.host g w.memory).pair
  reached-reachable g nothing_handed m copy r =
      rw (receive-short w.host g w.memory (rw copy (omega arith))).2 r
  reached-reachable g lent_ack m copy r = rw (receive-short w.host g w.memory (omega (arith, copy))).2 r
  reached-reachable g (frame_copy c) m copy r =
      let inside = f.sound.hand_outs_sealed c m in
      rw (received card_id host_id card_fits host_fits w b f c inside g copy)
      (by_number-reachable w.host (book_memory b) (c % frame_space)
      (map (wired b.transactions) (frame_at b c).messages) r
      (all_fit card_id host_id card_fits host_fits w b f c inside (frame_at b c).messages
      (λ e i. Memᴰ.append_left b.building (messages-of-frame b.frames c e i))))

  pub receives-reachable : (k : ℕ) → Reachable w.host
      → Reachable (receive_of w.host (get_or w.hand_outs k []) w.memory).pair
  receives-reachable k r = go (along-at (Copied card_id host_id b) [] w.hand_outs b.hand_outs
      f.rest.traffic.copies k)
    where
      go : Found (Copied card_id host_id b) [] w.hand_outs b.hand_outs k
          → Reachable (receive_of w.host (get_or w.hand_outs k []) w.memory).pair
      go (inl p) =
          rw (receive-short w.host (get_or w.hand_outs k []) w.memory (rw p.1 (omega arith))).2 r
      go (inr p) = reached-reachable (get_or w.hand_outs k []) p.0 p.2 p.3 r
