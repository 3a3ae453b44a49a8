-- What an entry point answers (Answer), reading a list (Read, Fill), the bytes of a list and the writer's refusals (Write).
pub mod Answer
pub mod Read
pub mod Fill
pub mod Write
