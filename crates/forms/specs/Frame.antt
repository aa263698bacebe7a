-- What the functions behind the checks ask of their callers, and what the checks give: bytes in their frame.
-- Assumes nothing.
use Rattle.std.specs.Prelude.{◌≡◌, List, ◌++◌, ℕ, length, drop, Ok}
use Rattle.model.specs.declared.net.Net.{Net as Shape}
use Rattle.model.specs.Net.{Net, Accepted, IsWidth, Lawful, width, initial_state}
use Rattle.forms.specs.Places.{image_length, log_length}
use Rattle.forms.specs.Stored.{net_of, state_of, stored, log_events}
use Rattle.forms.specs.Listed.{state_bytes}
use Rattle.forms.specs.Nets.{IsNet}
use Rattle.forms.specs.Logs.{event_count, IsLog}
use Rattle.forms.specs.States.{IsState, check_state}

-- the shape is N's
pub record HasShape (N : Net) (shape : Shape) : Type 0 where
  pub places_are : shape.places ≡ N.places
  pub transitions_are : shape.transitions ≡ N.transitions
  pub width_is : shape.width ≡ width N

-- a checked net, with its shape
pub record FramedNet (net : List ℕ) (shape : Shape) : Type 0 where
  pub is_net : IsNet net
  pub has_shape : HasShape (net_of net) shape

-- a checked net with its shape, and a checked state of it at the front of a buffer
pub record Framed (net : List ℕ) (shape : Shape) (state : List ℕ) : Type 0 where
  pub net_framed : FramedNet net shape
  pub is_state : IsState (net_of net) state

-- what a frame gives of the model: a net that document 01 accepts, its width, a lawful state
pub record Given (net : List ℕ) (shape : Shape) (state : List ℕ) : Type 0 where
  pub accepted : Accepted (net_of net)
  pub width_is : IsWidth (net_of net) shape.width
  pub lawful : Lawful (net_of net) (stored net state)

-- a checked log: its events are whole, so many, and fill it
pub record FramedLog (log : List ℕ) : Type 0 where
  pub is-log : IsLog log
  pub count_is : length (log_events log) ≡ event_count log
  pub fills : length log ≡ log_length (event_count log)

-- b' is b with the whole image of the net's initial state at its front: it is accepted, and reads as that state
pub record Began (net : List ℕ) (b b' : List ℕ) : Type 0 where
  pub whole : b' ≡ state_bytes (net_of net) (initial_state (net_of net)) ++ drop (image_length (net_of net)) b
  pub accepted : check_state (net_of net) b' ≡ Ok tt
  pub reads : state_of (net_of net) b' ≡ initial_state (net_of net)
