pub mod RingLaws
