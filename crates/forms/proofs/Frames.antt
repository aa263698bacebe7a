-- What acceptance gives: the checks put bytes in their frame, the initial state is in it, and a lawful state written over one that is
-- stays in it.
-- Assumes nothing.
use Rattle.std.proofs.Common.{Ok}
use mathlib.Core.Path.{◌≡◌, ap, ◌∙◌}
use mathlib.Core.List.{List}
use Prim.Native.Nat.{ℕ, ◌≤◌}
use native.Mathlib.Omega.{arith}
use lib.ListN.{length}
use borrow.Author.Tests.{le-leb}
use Rattle.model.specs.declared.net.Net.{Net as Shape}
use Rattle.model.specs.Net.{Net, State, Lawful, width, initial_state}
use Rattle.model.proofs.Shape.{width_is}
use Rattle.model.proofs.Lawful.{initial-lawful}
use Rattle.forms.specs.Word.{Bytes, word}
use Rattle.forms.specs.Places.{image_length}
use Rattle.forms.specs.Stored.{net_of}
use Rattle.forms.specs.Written.{written, after_initial}
use Rattle.forms.specs.Nets.{IsNet, check_net}
use Rattle.forms.specs.States.{IsState, check_state}
use Rattle.forms.specs.Frame.{HasShape, FramedNet, Framed, Given, Began}
use Rattle.forms.proofs.Nets.{net-exact, net-accepted, some-transition}
use Rattle.forms.proofs.States.{state-exact, state-lawful}
use Rattle.forms.proofs.Stored.{count-place}
use Rattle.forms.proofs.Written.{length-written, written-head, word_counts}
use Rattle.forms.proofs.Image.{head-word, image-accepted, image-reads}
use Rattle.forms.proofs.ListedState.{image-listed}

-- the checks give the frame
pub net_frame : (net : List ℕ) (shape : Shape) → check_net net ≡ Ok tt → HasShape (net_of net) shape → FramedNet net shape
net_frame net shape e h = record { is_net = (net-exact net).0 e; has_shape = h }

pub frame : (net : List ℕ) (shape : Shape) (state : List ℕ) → FramedNet net shape → check_state (net_of net) state ≡ Ok tt → Framed net shape state
frame net shape state f e = record { net_framed = f; is_state = (state-exact (net_of net) state).0 e }

-- a lawful state that is written over a state is one
pub written-accepted : (N : Net) (S : State) (b : List ℕ) → IsState N b → Lawful N S → IsState N (written N S b)
written-accepted N S b i s =
    let h = i.head in
    let kept = written-head N S b in
    record {
      head = record {
        least = rw length-written h.least;
        begins = record {
          version_is = kept 0 (omega arith) ∙ h.begins.version_is;
          length_is = head-word (written N S b) b kept ∙ h.begins.length_is;
        };
        places_are = kept 5 (omega arith) ∙ h.places_are;
        transitions_are = kept 6 (omega arith) ∙ h.transitions_are;
        width_is = kept 7 (omega arith) ∙ h.width_is;
        room = rw length-written h.room;
      };
      none_past = λ t l j k g.
          ap (word (written N S b)) (count-place N.places (width N) t j) ∙ word_counts N S b h.room t j l k ∙ s.none_past_lfd t j l k g;
    }

pub written-framed : (net : List ℕ) (shape : Shape) (b : List ℕ) (S : State) → Framed net shape b → Lawful (net_of net) S
    → Framed net shape (written (net_of net) S b)
written-framed net shape b S f s = record { net_framed = f.net_framed; is_state = written-accepted (net_of net) S b f.is_state s }

-- THE INITIAL STATE

pub initial-began : (net b : List ℕ) → Bytes net → IsNet net → image_length (net_of net) ≤ length b
    → Began net b (after_initial (net_of net) b)
unfolding after_initial
initial-began net b small n room =
    let N = net_of net in
    let s = initial-lawful N (net-accepted net small n).proper in
    rw (le-leb (image_length N) (length b) room) (record {
      whole = image-listed N (initial_state N) b room;
      accepted = (state-exact N _).1 (image-accepted N (initial_state N) b room s);
      reads = image-reads N (initial_state N) b room s;
    })

-- WHAT A FRAME GIVES OF THE MODEL

pub framed-gives : (net : List ℕ) (shape : Shape) (state : List ℕ) → Bytes net → Bytes state → Framed net shape state → Given net shape state
framed-gives net shape state small small' f =
    let n = f.net_framed.is_net in
    record {
      accepted = net-accepted net small n;
      width_is = rw f.net_framed.has_shape.width_is (width_is (net_of net) (some-transition net n));
      lawful = state-lawful (net_of net) state small' f.is_state;
    }
