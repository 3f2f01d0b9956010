-- What the contracts say of a text that is put into a buffer.
pub mod Put
